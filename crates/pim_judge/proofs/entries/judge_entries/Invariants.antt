use Rattle.std.proofs.Common.{◌≡◌, ◌+◌, map, drop}
use Rattle.pim_base.specs.Recordings.{entry_line}
use Rattle.pim_base.specs.Reports.{verdict_from}
use Rattle.pim_judge.proofs.entries.judge_entries.Given as goal

-- the verdict is that of the other entries
abbrev pub invariant-loop-index : goal.invariant-loop-index
invariant-loop-index l =
    verdict_from (l.index + 1) l.manager (drop l.index (map entry_line l.entries))
    ≡ verdict_from 1 l.fn.manager (map entry_line l.entries)
