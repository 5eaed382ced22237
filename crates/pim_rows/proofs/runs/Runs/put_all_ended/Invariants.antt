use Rattle.std.proofs.Common.{◌≡◌, ◌++◌, take}
use Rattle.pim_rows.specs.Kept.{kept_of}
use Rattle.pim_rows.specs.Rows.{text_of}
use Rattle.pim_rows.specs.Runs.{all_ended}
use Rattle.pim_rows.proofs.runs.Runs.put_all_ended.Given as goal

-- the rows of the changes so far
abbrev pub invariant-loop-change : goal.invariant-loop-change
invariant-loop-change l =
    l.out.items ≡ l.fn.out.items
    ++ text_of (all_ended (kept_of l.self.starts) l.time l.line (take l.change-index l.changes))
