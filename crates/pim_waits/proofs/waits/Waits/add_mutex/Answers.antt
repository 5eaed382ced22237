use Rattle.std.proofs.Common.{length, sym, ◌∙◌, ap, subst, arith}
use Rattle.pim_base.specs.State.{State}
use Rattle.pim_waits.specs.Flow.{Flows, level_at, nobody}
use Rattle.pim_waits.specs.Model.{protocol_in_model}
use Rattle.pim_waits.specs.Whole.{IsWhole}
use Rattle.pim_waits.proofs.Settling.{flows_mutex}
use Rattle.pim_waits.proofs.Whole.{whole_mutex}
use Rattle.pim_waits.proofs.waits.Waits.add_mutex.Goals as goal

pub invariant_of-self-2 : goal.invariant_of-self-2
invariant_of-self-2 c =
    let S = c.self.inside.facts in
    let p = protocol_in_model c.args.protocol in
    let old = c.self.invariant in
    let is = c.in_ok-add_mutex.ensures.ok in
    let whole = whole_mutex S p old.whole in
    record {
      whole = subst IsWhole (sym is) whole;
      len = old.len ∙ ap (λ (X : State). length X.base) (sym is);
      flows =
          subst (λ X. Flows X (level_at c.self.inside.gets.items) nobody) (sym is)
          (flows_mutex S p old.whole whole (level_at c.self.inside.gets.items) old.flows);
      room = omega (arith, old.room, ap (λ (X : State). length X.base) is);
    }
