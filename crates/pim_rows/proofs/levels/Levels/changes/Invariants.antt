use Rattle.std.proofs.Common.{◌≡◌, map, take}
use Rattle.pim_world.specs.Held.{world_of}
use Rattle.pim_world.specs.Worlds.{World}
use Rattle.pim_rows.specs.Kept.{kept_of}
use Rattle.pim_rows.specs.Levels.{AreLevels}
use Rattle.pim_rows.specs.Runs.{change_of}
use Rattle.pim_rows.proofs.levels.Levels.changes.Given as goal

-- the changes of the threads so far
abbrev pub invariant-loop-thread : goal.invariant-loop-thread
invariant-loop-thread l =
    (w : World) → AreLevels (kept_of l.self.apart) w
    → l.changes.items ≡ map (change_of w (world_of l.world)) (take l.thread-index l.threads)
