use Rattle.std.proofs.Common.{◌≡◌, length}
use Rattle.std.specs.List.{filter_map}
use Rattle.pim_manager.specs.Handed.{with_its_owner}
use Rattle.pim_manager.proofs.handed_mutexes.HandedMutexesIterator.next.Given as goal

-- none that was passed has an owner
abbrev pub invariant-loop-number : goal.invariant-loop-number
invariant-loop-number l =
    filter_map (with_its_owner l.self-inside.manager.now) l.self-inside.released ≡ l.fn.self

abbrev pub decreases-loop-number : goal.decreases-loop-number
decreases-loop-number l = length l.self-inside.released
