use Rattle.std.proofs.Common.{◌≡◌, ◌++◌, take}
use Rattle.pim_rows.specs.Kept.{kept_of}
use Rattle.pim_rows.specs.Rows.{text_of}
use Rattle.pim_rows.specs.Runs.{all_lasting}
use Rattle.pim_rows.proofs.runs.Runs.put_all_lasting.Given as goal

-- the rows of the threads so far
abbrev pub invariant-loop-one : goal.invariant-loop-one
invariant-loop-one l =
    l.out.items ≡ l.fn.out.items
    ++ text_of (all_lasting (kept_of l.self.starts) l.time (take l.one-index l.threads))
