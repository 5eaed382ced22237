use Rattle.std.proofs.Common.{◌∙◌, ap}
use Rattle.pim_base.specs.State.{with_protocol}
use Rattle.pim_chain.specs.Shown.{shown}
use Rattle.pim_chain.specs.Views.{View, stored_at, with_state}
use Rattle.pim_chain.proofs.Protocols.{ready_protocol}
use Rattle.pim_chain.proofs.Fields.{settled_after}
use Rattle.pim_chain.proofs.Unsettled.{protocol_unsettles}
use Rattle.pim_chain.proofs.tables.Tables.put_protocol.Goals as goal

pub invariant_of-self : goal.invariant_of-self
invariant_of-self c = record {
  ready = rw (c.put.ensures, c.get.ensures) (ready_protocol (shown c.self.inside) c.args.mutex c.args.protocol c.self.invariant.ready);
  owned = c.self.invariant.owned;
}

pub returns-clause-unsettles : goal.returns-clause-unsettles
returns-clause-unsettles c settled =
    let v = shown c.self.inside in
    settled_after
    (ap (λ ps. with_state v (record v.state { protocol = ps })) (rw c.get.ensures at c.put.ensures)
    ∙ ap (λ (x : View). with_state x (with_protocol x.state c.args.mutex c.args.protocol)) c.self.view_is)
    (protocol_unsettles c.args.self.now.state (stored_at c.args.self.now) c.args.mutex c.args.protocol c.requires.free settled)
