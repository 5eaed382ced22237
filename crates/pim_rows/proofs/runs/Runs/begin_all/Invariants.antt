use Rattle.std.proofs.Common.{◌≡◌, take}
use Rattle.pim_world.specs.Held.{world_of}
use Rattle.pim_rows.specs.Kept.{kept_of}
use Rattle.pim_rows.specs.Runs.{with_all}
use Rattle.pim_rows.proofs.runs.Runs.begin_all.Given as goal

-- what the changes so far begin is kept
abbrev pub invariant-loop-change : goal.invariant-loop-change
invariant-loop-change l =
    kept_of l.self.starts ≡ with_all
    (world_of l.world) l.line (kept_of l.fn.self.starts) (take l.change-index l.changes)
