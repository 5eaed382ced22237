use Rattle.std.proofs.Common.{◌≡◌, List}
use Rattle.std.specs.List.{fold}
use Rattle.pim_base.specs.Lists.{numbers}
use Rattle.pim_world.specs.Held.{world_of}
use Rattle.pim_rows.specs.Moments.{Moment, now}
use Rattle.pim_rows.specs.Begun.{is_owned, grant}
use Rattle.pim_rows.specs.Found.{lasting_section}
use Rattle.pim_rows.specs.Kept.{kept_of, AreStarts}
use Rattle.pim_rows.specs.OffTimes.{AreOffTimes}
use Rattle.pim_rows.proofs.sections.put_lasting_sections.Given as goal

-- the sections at the places so far
abbrev pub invariant-loop-i : goal.invariant-loop-i
invariant-loop-i l =
    (ms : List Moment)
    → world_of l.world ≡ now ms
    → AreStarts is_owned grant (kept_of l.grants.starts) ms
    → AreOffTimes (kept_of l.off_times.starts) ms
    → l.table ≡ fold (lasting_section ms) l.fn.table (numbers l.i)
