use Rattle.std.proofs.Common.{◌≡◌, ◌≤◌, ◌+◌, ◌-◌, List, length}
use Rattle.std.specs.List.{fold, filter}
use Rattle.pim_base.specs.Lists.{numbers, holds}
use Rattle.pim_base.specs.State.{owner_of}
use Rattle.pim_world.specs.Held.{world_of}
use Rattle.pim_rows.specs.Moments.{Moment, now, number}
use Rattle.pim_rows.specs.Begun.{is_owned, grant}
use Rattle.pim_rows.specs.Found.{put_nest}
use Rattle.pim_rows.specs.Kept.{kept_of, AreStarts}
use Rattle.pim_rows.proofs.nesting.put_nests_of.Given as goal

-- the requests within the sections up to the last one
abbrev pub invariant-loop-outer : goal.invariant-loop-outer
invariant-loop-outer l =
    let S = (world_of l.world).state in
    record {
      within : l.last ≤ length S.protocol;
      table : (ms : List Moment) → world_of l.world ≡ now ms → l.line ≡ number ms + 1
          → AreStarts is_owned grant (kept_of l.grants.starts) ms
          → l.table ≡ fold (put_nest ms l.thread l.mutex) l.fn.table
          (filter (λ m. holds (owner_of S m) l.thread) (numbers l.last));
    }

-- the mutexes that are left
abbrev pub decreases-loop-outer : goal.decreases-loop-outer
decreases-loop-outer l = length (world_of l.world).state.protocol - l.last
