use Rattle.std.proofs.Common.{◌≡◌, ◌∙◌, ◌+◌, ◌-◌, ◌∷◌, ℕ, [], arith, ap, refl, zero-add}
use Rattle.std.specs.List.{slice_get}
use Rattle.pim_base.specs.Spelling.{SPACE}
use Rattle.pim_text.specs.Reading.{words, pieces}
use Rattle.pim_text.proofs.WordPlaceLemmas.{get-first, get-later}
use Rattle.pim_text.proofs.explaining.word.word_at.Goals as goal

pub loop-passed-init : goal.loop-passed-init
loop-passed-init c = λ k. ap (slice_get (words c.args.line.now)) (zero-add k)

pub returns-in_err-rest : goal.returns-in_err-rest
returns-in_err-rest c = rw c.from_residual.ensures (
    let k : ℕ = c.args.place - c.loop-passed._passed in
    let here : c.args.place ≡ c.loop-passed._passed + k = omega arith in
    ap (slice_get (words c.args.line.now)) here
    ∙ c.loop-passed.invariant k
    ∙ get-later (words c.loop-passed.rest.now) [] c.cut.result.0.now k
    (c.cut.ensures.parts ∙ ap (λ o. c.cut.result.0.now ∷ pieces SPACE o) c.in_err-rest.was) (λ zero. omega arith))

pub loop-passed-preserved : goal.loop-passed-preserved
loop-passed-preserved c = λ k.
    let here : c.loop-passed._passed + 1 + k ≡ c.loop-passed._passed + (k + 1) = omega arith in
    let same : k + 1 - 1 ≡ k = omega arith in
    ap (slice_get (words c.args.line.now)) here
    ∙ c.loop-passed.invariant (k + 1)
    ∙ get-later (words c.loop-passed.rest.now) (words c.in_ok-rest.rest.now) c.cut.result.0.now (k + 1)
    (c.cut.ensures.parts ∙ ap (λ o. c.cut.result.0.now ∷ pieces SPACE o) c.in_ok-rest.was) (λ zero. omega arith)
    ∙ ap (slice_get (words c.in_ok-rest.rest.now)) same

pub returns : goal.returns
returns c =
    let here : c.args.place ≡ c.loop-passed._passed + 0 = omega arith in
    ap (slice_get (words c.args.line.now)) here
    ∙ c.loop-passed.invariant 0
    ∙ get-first (words c.loop-passed.rest.now) _ c.cut-2.result.0.now 0 c.cut-2.ensures.parts refl
