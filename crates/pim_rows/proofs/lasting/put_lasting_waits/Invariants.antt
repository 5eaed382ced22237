use Rattle.std.proofs.Common.{◌≡◌, ◌≤◌, ℕ, List, Some, take}
use Rattle.std.specs.Prelude.{flat_map}
use Rattle.pim_base.specs.Lists.{nth}
use Rattle.pim_world.specs.Held.{world_of}
use Rattle.pim_rows.specs.Moments.{Moment, now}
use Rattle.pim_world.specs.Standing.{waits}
use Rattle.pim_rows.specs.Begun.{wait_start}
use Rattle.pim_rows.specs.Kept.{kept_of, AreStarts}
use Rattle.pim_rows.specs.AllOpen.{AreOpen}
use Rattle.pim_rows.specs.declared.open_wait.OpenWait.{OpenWait}
use Rattle.pim_rows.specs.Rows.{lasting_wait}
use Rattle.pim_rows.specs.Ending.{Puts}
use Rattle.pim_rows.proofs.lasting.put_lasting_waits.Given as goal

-- the rows of the threads so far; what is still kept is what was kept
abbrev pub invariant-loop-place : goal.invariant-loop-place
invariant-loop-place l =
    record {
      rows :
          (ms : List Moment)
          → world_of l.fn.world ≡ now ms
          → AreStarts waits wait_start (kept_of l.fn.starts.starts) ms
          → AreOpen l.fn.opens.opens.items ms
          → Puts (flat_map (lasting_wait ms) (take l.place-index l.places))
          l.fn.out.items l.out.items l.waits l.inverted;
      left :
          (t : ℕ) (w : OpenWait)
          → nth l.opens.opens.items t ≡ Some (Some w)
          → nth l.fn.opens.opens.items t ≡ Some (Some w);
      few : l.waits ≤ l.place-index;
      fewer : l.inverted ≤ l.place-index;
    }
