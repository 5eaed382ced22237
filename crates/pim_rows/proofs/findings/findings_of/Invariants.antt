use Rattle.std.proofs.Common.{List, length, ◌+◌, ◌≤◌}
use Rattle.pim_fact_lines.specs.Texts.{lines_of}
use Rattle.pim_rows.specs.Moments.{Moment}
use Rattle.pim_rows.specs.Tracking.{Tracks}
use Rattle.pim_rows.proofs.Underway.{Underway}
use Rattle.pim_rows.proofs.findings.findings_of.Given as goal

-- the tracker has followed the lines before the rest, and each of them has a byte
abbrev pub invariant-loop-rest : goal.invariant-loop-rest
invariant-loop-rest l =
    (ms : List Moment)
    × Underway (lines_of l.fn.bytes) (lines_of l.rest) ms l.number × Tracks l.tracker ms
    × (l.number + length l.rest ≤ length l.fn.bytes)

-- the bytes that are left
abbrev pub decreases-loop-rest : goal.decreases-loop-rest
decreases-loop-rest l = length l.rest
