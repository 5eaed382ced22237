use Rattle.std.proofs.Common.{◌∙◌, ap}
use Rattle.pim_base.specs.State.{with_ceiling}
use Rattle.pim_base.specs.declared.steps.Protocol.{Protocol}
use Rattle.pim_chain.specs.Shown.{shown}
use Rattle.pim_chain.specs.Views.{View, stored_at, with_state}
use Rattle.pim_chain.proofs.Protocols.{ready_protocol}
use Rattle.pim_chain.proofs.Fields.{settled_after}
use Rattle.pim_chain.proofs.Unsettled.{ceiling_unsettles}
use Rattle.pim_chain.proofs.tables.Tables.put_ceiling.Goals as goal

pub invariant_of-self : goal.invariant_of-self
invariant_of-self c = record {
  ready = rw (c.put.ensures, c.get.ensures) (ready_protocol (shown c.self.inside) c.args.mutex (Protocol.Protect c.args.ceiling) c.self.invariant.ready);
  owned = c.self.invariant.owned;
}

pub returns-clause-unsettles : goal.returns-clause-unsettles
returns-clause-unsettles c settled =
    let v = shown c.self.inside in
    settled_after
    (ap (λ ps. with_state v (record v.state { protocol = ps })) (rw c.get.ensures at c.put.ensures)
    ∙ ap (λ (x : View). with_state x (with_ceiling x.state c.args.mutex c.args.ceiling)) c.self.view_is)
    (ceiling_unsettles c.args.self.now.state (stored_at c.args.self.now) c.args.mutex c.args.ceiling c.requires settled)
