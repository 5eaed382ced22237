use Rattle.std.proofs.Common.{◌≡◌, map, take}
use Rattle.pim_world.specs.Held.{world_of}
use Rattle.pim_rows.specs.Runs.{levels_of}
use Rattle.pim_rows.proofs.run_changes.levels_of_all.Given as goal

-- the levels of the threads so far
abbrev pub invariant-loop-thread : goal.invariant-loop-thread
invariant-loop-thread l =
    l.levels.items ≡ map (levels_of (world_of l.world)) (take l.thread-index l.thread-items)
