use Rattle.std.proofs.Common.{◌≡◌, List, length, ◌+◌, ◌≤◌}
use Rattle.pim_fact_lines.specs.Texts.{lines_of}
use Rattle.pim_rows.specs.Moments.{Moment}
use Rattle.pim_rows.proofs.Underway.{Underway}
use Rattle.pim_spans.specs.Following.{Follows}
use Rattle.pim_spans.proofs.finding.spans_of.Given as goal

-- the follower has followed the lines before the rest, and each of them has a byte
abbrev pub invariant-loop-rest : goal.invariant-loop-rest
invariant-loop-rest l =
    (l.follower.window ≡ l.fn.window)
    × (ms : List Moment)
    × Underway (lines_of l.fn.bytes) (lines_of l.rest) ms l.number × Follows l.follower ms
    × (l.number + length l.rest ≤ length l.fn.bytes)

-- the bytes that are left
abbrev pub decreases-loop-rest : goal.decreases-loop-rest
decreases-loop-rest l = length l.rest
