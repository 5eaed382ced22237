use Rattle.std.proofs.Common.{◌≡◌, ◌<◌, ℕ, true, Some, get_or}
use Rattle.pim_base.specs.Lists.{contains}
use Rattle.pim_waits.specs.Awaited.{awaited_of}
use Rattle.pim_waits.specs.Members.{Extends}
use Rattle.pim_waits.proofs.facts.Facts.add_blocked.Given as goal

-- the threads that wait for the mutexes so far are members
abbrev pub invariant-loop-mutex : goal.invariant-loop-mutex
invariant-loop-mutex l = record {
  extends : Extends l.fn.component l.component;
  each :
      (k : ℕ)
      → k < l.mutex-index
      → (t : ℕ)
      → awaited_of l.self t ≡ Some (get_or l.mutex-items k 0)
      → contains l.component.threads t ≡ true;
}
