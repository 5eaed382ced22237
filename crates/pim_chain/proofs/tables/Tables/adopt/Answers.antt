use Rattle.pim_chain.specs.Views.{stored_at}
use Rattle.pim_chain.proofs.Adopted.{adopted_sound}
use Rattle.pim_chain.proofs.Fields.{settled_after}
use Rattle.pim_chain.proofs.Unsettled.{adopted_unsettles}
use Rattle.pim_chain.proofs.tables.Tables.adopt.Goals as goal

pub put_owner-requires-clause-sound : goal.put_owner-requires-clause-sound
put_owner-requires-clause-sound c ok = adopted_sound c.args.self.now.state c.args.mutex c.args.task c.requires.unawaited ok

pub returns-clause-unsettles : goal.returns-clause-unsettles
returns-clause-unsettles c settled =
    let v = c.args.self.now in
    settled_after c.put_owner.ensures.state
    (adopted_unsettles v.state (stored_at v) c.args.mutex c.args.task c.requires.unawaited c.requires.free c.requires.plain settled)
