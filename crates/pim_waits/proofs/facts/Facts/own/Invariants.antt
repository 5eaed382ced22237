use Rattle.std.proofs.Common.{◌≤◌, ◌<◌, ℕ, get_or}
use Rattle.pim_base.specs.State.{base_of}
use Rattle.pim_base.specs.Priorities.{own_priority}
use Rattle.pim_waits.specs.Own.{ceiling_for}
use Rattle.pim_waits.proofs.facts.Facts.own.Given as goal

-- it is no more than the thread has, and no less than what the mutexes so far give it
abbrev pub invariant-loop-mutex : goal.invariant-loop-mutex
invariant-loop-mutex l = record {
  most : l.own ≤ own_priority l.self l.thread;
  base : base_of l.self l.thread ≤ l.own;
  each :
      (k : ℕ)
      → k < l.mutex-index
      → ceiling_for l.self (get_or l.mutex-items k 0) l.thread ≤ l.own;
}
