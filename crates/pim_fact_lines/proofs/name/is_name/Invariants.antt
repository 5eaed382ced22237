use Rattle.std.proofs.Common.{ℕ, ◌<◌, ◌≤◌, get_or}
use Rattle.pim_fact_lines.proofs.name.is_name.Given as goal

-- the bytes so far are letters, digits or signs
abbrev pub invariant-loop-place : goal.invariant-loop-place
invariant-loop-place l =
    (k : ℕ) → k < l.place → (33 ≤ get_or l.bytes k 0) × (get_or l.bytes k 0 ≤ 126)
