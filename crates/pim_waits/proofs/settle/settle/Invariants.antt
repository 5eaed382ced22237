use Rattle.std.proofs.Common.{◌≡◌, length, drop}
use Rattle.pim_base.specs.Lists.{contains}
use Rattle.pim_base.specs.State.{State}
use Rattle.pim_waits.specs.Around.{Around}
use Rattle.pim_waits.specs.Flow.{Flows, level_at, nobody}
use Rattle.pim_waits.proofs.settle.settle.Given as goal

-- the levels of the members so far are passed on
abbrev pub invariant-loop-thread : goal.invariant-loop-thread
invariant-loop-thread l = record {
  len : length l.gets.items ≡ length l.fn.gets.items;
  flows :
      (before : State)
      → Around before l.facts (contains l.members)
      → Flows before (level_at l.fn.gets.items) nobody
      → Flows l.facts (level_at l.gets.items) (contains (drop l.thread-index l.members));
}
