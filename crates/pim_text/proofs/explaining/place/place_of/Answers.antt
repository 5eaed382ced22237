use Rattle.std.proofs.Common.{◌≡◌, ◌∙◌, ◌∷◌, arith, ap, refl, subst}
use Rattle.pim_base.specs.Spelling.{NEWLINE}
use Rattle.pim_text.specs.Reading.{pieces}
use Rattle.pim_text.proofs.PlaceLemmas.{Reached, at_first, at_line, next, within}
use Rattle.pim_text.proofs.explaining.place.place_of.Goals as goal

pub loop-passed-init : goal.loop-passed-init
loop-passed-init c = at_first _

pub loop-passed-preserved : goal.loop-passed-preserved
loop-passed-preserved c =
    next c.args.text.now c.loop-passed.rest.now c.cut.result.0.now c.in_ok-rest.rest.now _ c.loop-passed.invariant
    (c.cut.ensures.parts ∙ ap (λ o. c.cut.result.0.now ∷ pieces NEWLINE o) c.in_ok-rest.was)

pub slice_bounds-result-count : goal.slice_bounds-result-count
slice_bounds-result-count c = omega (arith, within _ _ _ c.loop-passed.invariant)

pub returns : goal.returns
returns c =
    let all : c.loop-passed._passed ≡ c.args.number = omega arith in
    at_line c.args.text.now c.loop-passed.rest.now _ c.cut-2.result.0.now c.cut-2.result.1 c.args.number
    (subst (Reached c.args.text.now c.loop-passed.rest.now) all c.loop-passed.invariant) refl c.cut-2.ensures.parts
