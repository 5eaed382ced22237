use Rattle.std.proofs.Common.{length, sym, ◌∙◌, ap, subst, arith}
use Rattle.pim_base.specs.State.{State}
use Rattle.pim_waits.specs.Flow.{Flows, level_at, nobody}
use Rattle.pim_waits.specs.Whole.{IsWhole}
use Rattle.pim_waits.proofs.Settling.{flows_count}
use Rattle.pim_waits.proofs.Whole.{whole_count}
use Rattle.pim_waits.proofs.waits.Waits.put_count.Goals as goal

pub invariant_of-self : goal.invariant_of-self
invariant_of-self c =
    let S = c.self.inside.facts in
    let old = c.self.invariant in
    let is = c.put_count.ensures in
    record {
      whole = subst IsWhole (sym is) (whole_count S c.args.mutex c.args.count old.whole);
      len = old.len ∙ ap (λ (X : State). length X.base) (sym is);
      flows =
          subst (λ X. Flows X (level_at c.self.inside.gets.items) nobody) (sym is)
          (flows_count S c.args.mutex c.args.count (level_at c.self.inside.gets.items) old.flows);
      room = omega (arith, old.room, ap (λ (X : State). length X.base) is);
    }
