use Rattle.std.proofs.Common.{◌≡◌, ◌≤◌, ◌-◌, ◌+◌, ◌∙◌, ℕ, Bool, max, arith, sym, ap, refl, true, false, length}
use Rattle.pim_base.specs.Lists.{contains}
use Rattle.pim_base.specs.State.{State}
use Rattle.pim_base.specs.Chains.{heir, inherit_chain}
use Rattle.pim_base.specs.Priorities.{own_priority}
use Rattle.pim_base.proofs.Hops.{contains-chain_here}
use Rattle.pim_base.proofs.Greatest.{greatest_of, greatest_of-pass, greatest_of-fail, le-greatest_of}
use Rattle.pim_plain.proofs.plain_manager.PlainManager.effective_priority.Goals as goal
use Rattle.pim_plain.proofs.plain_manager.PlainManager.effective_priority.Goals.{then-on_inherit_chain, else-on_inherit_chain}

pub loop-number-preserved : goal.loop-number-preserved
loop-number-preserved c =
    let f : ℕ → ℕ = own_priority c.args.self.now in
    let p : ℕ → Bool = λ u. contains (inherit_chain c.args.self.now u) c.args.task in
    let n : ℕ = c.loop-number.number in
    let done : (n - 1) + 1 ≡ n = omega (arith, c.loop-number.auto.number) in
    let next : (n + 1) - 1 ≡ n = omega arith in
    elim c.if-on_inherit_chain.branch [
      | then-on_inherit_chain w ↦
          let passes : p n ≡ true = sym c.on_inherit_chain.ensures ∙ w.if-on_inherit_chain.true in
          rw next (omega (
            arith,
            w.prio-is,
            w.higher-prio.ensures,
            w.own_priority.ensures,
            c.loop-number.invariant,
            greatest_of-pass f p n (n - 1) done passes,
          ))
      | else-on_inherit_chain w ↦
          let fails : p n ≡ false = sym c.on_inherit_chain.ensures ∙ w.if-on_inherit_chain.false in
          rw next (omega (arith, w.prio-is, c.loop-number.invariant, greatest_of-fail f p n (n - 1) done fails))
    ]

pub returns : goal.returns
returns c =
    let S : State = c.args.self.now in
    let f : ℕ → ℕ = own_priority S in
    let t : ℕ = c.args.task in
    let p : ℕ → Bool = λ u. contains (inherit_chain S u) t in
    let all : c.loop-number.number - 1 ≡ length S.base = omega (arith, c.loop-number.auto.number, c.loop-number.auto.number-end) in
    let itself : p t ≡ true = contains-chain_here (heir S) (length S.base) t t refl in
    let low : f t ≤ greatest_of f p (length S.base) = le-greatest_of f p (length S.base) t c.requires.0 c.requires.1 itself in
    let whole : max (f t) (greatest_of f p (length S.base)) ≡ greatest_of f p (length S.base) = omega (arith, low) in
    c.loop-number.invariant ∙ ap (λ k. max (f t) (greatest_of f p k)) all ∙ whole
