use Rattle.std.proofs.Common.{◌<◌, ◌≤◌, ◌-◌, ℕ, length, get_or}
use Rattle.pim_waits.specs.Members.{Extends, HasNeighbours}
use Rattle.pim_waits.proofs.gather.gather.Given as goal

-- the neighbours of the members so far are members
abbrev pub invariant-loop-thread : goal.invariant-loop-thread
invariant-loop-thread l = record {
  extends : Extends l.fn.component l.component;
  few : l.done ≤ length l.component.threads;
  each :
      (k : ℕ)
      → k < l.done
      → HasNeighbours l.facts l.component.threads (get_or l.component.threads k 0);
}

abbrev pub decreases-loop-thread : goal.decreases-loop-thread
decreases-loop-thread l = l.fn.component.room - l.done
