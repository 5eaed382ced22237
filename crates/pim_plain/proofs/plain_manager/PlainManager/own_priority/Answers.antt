use Rattle.std.proofs.Common.{◌≡◌, ◌-◌, ◌+◌, ◌∙◌, ℕ, Bool, max, arith, sym, ap, unwrap_or, true, false, length}
use Rattle.pim_base.specs.Lists.{holds}
use Rattle.pim_base.specs.State.{State, owner_of, owned, base_of}
use Rattle.pim_base.specs.Priorities.{ceiling_of}
use Rattle.std.proofs.Common.{map}
use Rattle.pim_base.proofs.Greatest.{greatest_of-pass, greatest_of-fail, greatest-cons, greatest_of}
use Rattle.pim_plain.proofs.plain_manager.PlainManager.own_priority.Goals as goal
use Rattle.pim_plain.proofs.plain_manager.PlainManager.own_priority.Goals.{then-owns+in-Some, then-owns+in_default, else-owns}

pub loop-number-preserved : goal.loop-number-preserved
loop-number-preserved c =
    let f : ℕ → ℕ = ceiling_of c.args.self.now in
    let p : ℕ → Bool = λ m. holds (owner_of c.args.self.now m) c.args.task in
    let n : ℕ = c.loop-number.number in
    let done : (n - 1) + 1 ≡ n = omega (arith, c.loop-number.auto.number) in
    let next : (n + 1) - 1 ≡ n = omega arith in
    elim c.if-owns.branch [
      | then-owns+in-Some w ↦
          let passes : p n ≡ true = sym c.owns.ensures ∙ w.if-owns.true in
          let worth : f n ≡ w.in-Some.ceiling = ap (λ o. unwrap_or o 0) (sym w.ceiling.ensures ∙ w.in-Some.is) in
          rw next (omega (arith, w.prio-is, w.higher-prio.ensures, c.loop-number.invariant, worth, greatest_of-pass f p n (n - 1) done passes))
      | then-owns+in_default w ↦
          let passes : p n ≡ true = sym c.owns.ensures ∙ w.if-owns.true in
          let worth : f n ≡ 0 = ap (λ o. unwrap_or o 0) (sym w.ceiling.ensures ∙ w.in_default.is) in
          rw next (omega (arith, w.prio-is, c.loop-number.invariant, worth, greatest_of-pass f p n (n - 1) done passes))
      | else-owns w ↦
          let fails : p n ≡ false = sym c.owns.ensures ∙ w.if-owns.false in
          rw next (omega (arith, w.prio-is, c.loop-number.invariant, greatest_of-fail f p n (n - 1) done fails))
    ]

pub returns : goal.returns
returns c =
    let S : State = c.args.self.now in
    let f : ℕ → ℕ = ceiling_of S in
    let all : c.loop-number.number - 1 ≡ length S.protocol = omega (arith, c.loop-number.auto.number, c.loop-number.auto.number-end) in
    c.loop-number.invariant ∙ ap (λ k. max (base_of S c.args.task) (greatest_of f (λ m. holds (owner_of S m) c.args.task) k)) all
    ∙ sym (greatest-cons (base_of S c.args.task) (map f (owned S c.args.task)))
