use Rattle.std.proofs.Common.{◌≡◌, false, take}
use Rattle.std.specs.List.{AllByRecursion}
use Rattle.pim_queue.specs.QueueView.{QueueView}
use Rattle.pim_chain.specs.Rooms.{can_lend}
use Rattle.pim_chain.proofs.queues.first_lender.Given as goal

-- none of the queues so far can
abbrev pub invariant-loop-place : goal.invariant-loop-place
invariant-loop-place l = AllByRecursion (λ (q : QueueView). can_lend l.few q ≡ false) (take l.place l.queues)
