use Rattle.std.proofs.Common.{◌≡◌, take}
use Rattle.pim_rows.specs.Kept.{kept_of}
use Rattle.pim_rows.specs.Levels.{with_levels}
use Rattle.pim_rows.proofs.levels.Levels.follow.Given as goal

-- what the changes so far say is kept
abbrev pub invariant-loop-change : goal.invariant-loop-change
invariant-loop-change l =
    kept_of l.self.apart ≡ with_levels (kept_of l.fn.self.apart) (take l.change-index l.changes)
