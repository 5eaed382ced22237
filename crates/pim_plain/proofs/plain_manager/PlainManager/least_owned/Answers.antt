use Rattle.std.proofs.Common.{◌≡◌, ◌+◌, ◌-◌, ◌∙◌, ◌&&◌, ℕ, Bool, false, arith, sym, ap, length, find, filter}
use Rattle.std.specs.List.{range_with_len}
use Rattle.pim_base.specs.Lists.{holds}
use Rattle.pim_base.specs.State.{State, owner_of}
use Rattle.pim_plain.proofs.Searches.{find_filter-next, find_filter-here, find_filter-end}
use Rattle.pim_plain.proofs.plain_manager.PlainManager.least_owned.Goals as goal
use Rattle.pim_plain.proofs.plain_manager.PlainManager.least_owned.Goals.{else-owns-via-then-owns+else-passes, else-owns-via-else-owns}

pub loop-number-init : goal.loop-number-init
loop-number-init g c = λ p computes.
    let S : State = c.args.self.now in
    let all : length S.protocol ≡ length S.protocol + 1 - 1 = omega arith in
    ap (λ k. find p (filter (λ m. holds (owner_of S m) c.args.task) (range_with_len 1 k))) all

pub loop-number-preserved : goal.loop-number-preserved
loop-number-preserved g c = λ p computes.
    let S : State = c.args.self.now in
    let q : ℕ → Bool = λ m. holds (owner_of S m) c.args.task in
    let n : ℕ = c.loop-number.number in
    let left : (length S.protocol + 1 - (n + 1)) + 1 ≡ length S.protocol + 1 - n =
    omega (arith, c.loop-number-test.true, c.mutexes-number-end.ensures.count) in
    let fails : (q n && p n) ≡ false =
    elim c.else-owns.branch [
      | else-owns-via-then-owns+else-passes w ↦
          ap (λ b. q n && b) (sym (computes n w.passes.result w.passes.ensures) ∙ w.if-passes.false) ∙ ap (λ b. b && false) (sym c.owns.ensures ∙ w.if-owns.true)
      | else-owns-via-else-owns w ↦ ap (λ b. b && p n) (sym c.owns.ensures ∙ w.if-owns.false)
    ] in
    c.loop-number.invariant p computes ∙ find_filter-next p q n _ _ left fails

pub returns-then-passes : goal.returns-then-passes
returns-then-passes g c = λ p computes.
    let S : State = c.args.self.now in
    let n : ℕ = c.loop-number.number in
    let left : (length S.protocol + 1 - (n + 1)) + 1 ≡ length S.protocol + 1 - n =
    omega (arith, c.loop-number-test.true, c.mutexes-number-end.ensures.count) in
    sym (c.loop-number.invariant p computes
    ∙ find_filter-here p (λ m. holds (owner_of S m) c.args.task) n _ _ left
    (sym c.owns.ensures ∙ c.if-owns.true) (sym (computes n c.passes.result c.passes.ensures) ∙ c.if-passes.true))

pub returns : goal.returns
returns g c = λ p computes.
    let S : State = c.args.self.now in
    let over : length S.protocol + 1 - c.loop-number.number ≡ 0 =
    omega (arith, c.loop-number-test.false, c.mutexes-number-end.ensures.count) in
    sym (c.loop-number.invariant p computes ∙ find_filter-end p (λ m. holds (owner_of S m) c.args.task) _ _ over)
