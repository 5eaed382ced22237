use Rattle.std.proofs.Common.{◌≡◌, ◌++◌, take, vec_capacity}
use Rattle.pim_queue.proofs.queue.append.Given as goal

-- the first of the others are at the end
abbrev pub invariant-loop-waiter : goal.invariant-loop-waiter
invariant-loop-waiter l = record {
  items : l.waiters.items ≡ l.fn.waiters.items ++ take l.waiter-index l.others;
  capacity : vec_capacity l.waiters ≡ vec_capacity l.fn.waiters;
}
