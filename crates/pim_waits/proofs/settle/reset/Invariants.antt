use Rattle.std.proofs.Common.{◌≡◌, ◌<◌, ℕ, false, length, get_or}
use Rattle.pim_base.specs.Lists.{contains}
use Rattle.pim_base.specs.Priorities.{own_priority}
use Rattle.pim_waits.specs.Flow.{level_at}
use Rattle.pim_waits.proofs.settle.reset.Given as goal

-- the threads so far have their own levels, and those that are no members what they had
abbrev pub invariant-loop-thread : goal.invariant-loop-thread
invariant-loop-thread l = record {
  len : length l.gets.items ≡ length l.fn.gets.items;
  inside :
      (k : ℕ)
      → k < l.thread-index
      → level_at l.gets.items (get_or l.members k 0) ≡ own_priority l.facts (get_or l.members k 0);
  outside :
      (t : ℕ)
      → contains l.members t ≡ false
      → level_at l.gets.items t ≡ level_at l.fn.gets.items t;
}
