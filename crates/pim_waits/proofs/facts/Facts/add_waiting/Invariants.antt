use Rattle.std.proofs.Common.{◌≡◌, ◌<◌, ◌≤◌, ℕ, true, get_or}
use Rattle.pim_base.specs.Lists.{contains}
use Rattle.pim_waits.specs.Members.{Extends}
use Rattle.pim_waits.proofs.facts.Facts.add_waiting.Given as goal

-- the threads so far are members, if they are known
abbrev pub invariant-loop-thread : goal.invariant-loop-thread
invariant-loop-thread l = record {
  extends : Extends l.fn.component l.component;
  each :
      (k : ℕ)
      → k < l.thread-index
      → 1 ≤ get_or l.thread-items k 0
      → get_or l.thread-items k 0 ≤ l.fn.component.room
      → contains l.component.threads (get_or l.thread-items k 0) ≡ true;
}
