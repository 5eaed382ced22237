use Rattle.std.proofs.Common.{arith}
use Rattle.std.proofs.lemmas.List.{with_items_is}
use Rattle.pim_queue.proofs.Apart.{queued_repositioned}
use Rattle.pim_queue.proofs.queue.Queue.reposition_waiter.Goals as goal

pub invariant_of-self : goal.invariant_of-self
invariant_of-self c =
    let w = c.args.waiter.now in
    let queued = queued_repositioned _ w.task c.args.prio w _ c.self.invariant.0 in
    let room = c.self.invariant.1 in
    let value = c.deref_mut.ensures.value in
    grind (arith, c.give_prio.ensures, value, with_items_is, c.requires, c.self.view_is, room, queued)
