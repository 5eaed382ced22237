use Rattle.std.proofs.Common.{◌≡◌, ◌-◌, ◌+◌, ◌∙◌, ℕ, false, arith, sym}
use Rattle.pim_base.specs.Lists.{holds}
use Rattle.pim_base.specs.State.{State, owner_of}
use Rattle.pim_base.proofs.HandOvers.{released_more, released_past}
use Rattle.pim_plain.proofs.plain_manager.PlainManager.release_all.Goals as goal
use Rattle.pim_plain.proofs.plain_manager.PlainManager.release_all.Goals.{then-owns, else-owns}

pub loop-number-preserved : goal.loop-number-preserved
loop-number-preserved c =
    let S : State = c.args.self.now in
    let T : State = c.loop-number.self in
    let n : ℕ = c.loop-number.number in
    let done : (n - 1) + 1 ≡ n = omega (arith, c.loop-number.auto.number) in
    let next : (n + 1) - 1 ≡ n = omega arith in
    rw next (elim c.if-owns.branch [
      | then-owns w ↦
          rw (w.self-is, w.hand_over.ensures.state, w.released-is)
          (released_more S T c.args.actor (n - 1) n c.loop-number.released done (sym c.owns.ensures ∙ w.if-owns.true) c.loop-number.invariant)
      | else-owns w ↦
          let fails : holds (owner_of T n) c.args.actor ≡ false = sym c.owns.ensures ∙ w.if-owns.false in
          rw (w.self-is, w.released-is)
          (released_past S T c.args.actor (n - 1) n c.loop-number.released (omega arith)
          (λ j low high. let same : j ≡ n = omega (arith, low, high) in rw same fails) c.loop-number.invariant)
    ])
