use Rattle.std.proofs.Common.{[]}
use Rattle.pim_queue.specs.QueueView.{QueueView}
use Rattle.pim_chain.proofs.Rooms.{one_lends}
use Rattle.pim_chain.proofs.queues.lender.Goals as goal

pub unreachable-requires : goal.unreachable-requires
unreachable-requires c =
    let d : QueueView = record { waiters = []; room = 0 } in
    one_lends c.args.few c.args.place c.args.queues.now d c.requires.place (c.requires.room d) (c.requires.waiters d) c.requires.roomy
    c.in-None.ensures.none
