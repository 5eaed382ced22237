use Rattle.std.proofs.Common.{◌≡◌, ◌++◌, List, take}
use Rattle.std.specs.Prelude.{flat_map}
use Rattle.pim_world.specs.Held.{world_of}
use Rattle.pim_rows.specs.Moments.{Moment, now}
use Rattle.pim_rows.specs.Begun.{is_blocked, block}
use Rattle.pim_rows.specs.Kept.{kept_of, AreStarts}
use Rattle.pim_rows.specs.Rows.{lasting_block, text_of}
use Rattle.pim_rows.proofs.lasting.put_lasting_blocks.Given as goal

-- the rows of the threads so far
abbrev pub invariant-loop-place : goal.invariant-loop-place
invariant-loop-place l =
    (ms : List Moment)
    → world_of l.fn.world ≡ now ms
    → AreStarts is_blocked block (kept_of l.fn.blocks.starts) ms
    → l.out.items
    ≡ l.fn.out.items ++ text_of (flat_map (lasting_block ms) (take l.place-index l.places))
