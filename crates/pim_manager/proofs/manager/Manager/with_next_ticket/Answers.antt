use Rattle.std.proofs.Common.{◌≡◌, ◌∙◌, ap, sym, subst}
use Rattle.pim_base.specs.State.{start}
use Rattle.pim_base.specs.Steady.{IsSteady}
use Rattle.pim_base.proofs.Steady.{start_law}
use Rattle.pim_chain.specs.Views.{View}
use Rattle.pim_manager.proofs.manager.Manager.with_next_ticket.Goals as goal

pub invariant_of-result : goal.invariant_of-result
invariant_of-result c =
    let is : c.put_next_ticket.new.self.state ≡ start c.args.bases.now c.args.protocols.now c.args.next =
    ap (λ (v : View). v.state) c.put_next_ticket.ensures.state
    ∙ ap (λ (v : View). record v.state { next = c.args.next }) c.in_ok-tables.ensures.made in
    record {
      calm = record {
        ready = c.put_next_ticket.ensures.ready;
        settled = c.put_next_ticket.ensures.unsettles c.in_ok-tables.ensures.calm.settled;
      };
      steady = subst IsSteady (sym is) (start_law c.args.bases.now c.args.protocols.now c.args.next);
    }
