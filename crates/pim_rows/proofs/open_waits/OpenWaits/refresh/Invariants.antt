use Rattle.std.proofs.Common.{take}
use Rattle.pim_world.specs.Held.{world_of}
use Rattle.pim_rows.specs.AllOpen.{SoFar}
use Rattle.pim_rows.proofs.open_waits.OpenWaits.refresh.Given as goal

abbrev pub invariant-loop-thread : goal.invariant-loop-thread
invariant-loop-thread l =
    SoFar (world_of l.world)
    (take l.thread-index l.affected) l.initial.self.opens.items l.self.opens.items
