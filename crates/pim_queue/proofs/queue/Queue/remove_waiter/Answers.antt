use Rattle.std.proofs.Common.{arith}
use Rattle.pim_queue.proofs.Apart.{queued_without}
use Rattle.pim_queue.proofs.queue.Queue.remove_waiter.Goals as goal

pub invariant_of-self : goal.invariant_of-self
invariant_of-self c =
    let queued = queued_without _ c.args.waiter.now.task _ c.self.invariant.0 in
    grind (arith, c.take_out.ensures, c.self.invariant.1, queued)
