use Rattle.pim_world.specs.Held.{world_of}
use Rattle.pim_rows.specs.Kept.{kept_of}
use Rattle.pim_rows.proofs.OffTime.{AreOver}
use Rattle.pim_rows.proofs.off_times.OffTimes.lose.Given as goal

abbrev pub invariant-loop-i : goal.invariant-loop-i
invariant-loop-i l =
    AreOver (kept_of l.fn.self.starts) (kept_of l.self.starts) (world_of l.before) l.clock l.i
