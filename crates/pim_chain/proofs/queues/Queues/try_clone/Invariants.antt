use Rattle.std.proofs.Common.{◌≡◌, take}
use Rattle.pim_chain.proofs.queues.Queues.try_clone.Given as goal

abbrev pub invariant-loop-queue : goal.invariant-loop-queue
invariant-loop-queue l = l.queues.items ≡ take l.queue-index l.self-inside.queues.items
