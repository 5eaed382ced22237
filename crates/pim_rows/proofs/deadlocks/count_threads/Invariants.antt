use Rattle.std.proofs.Common.{◌≤◌, length}
use Rattle.pim_rows.proofs.deadlocks.count_threads.Given as goal

-- there are at least as many
abbrev pub invariant-loop-index : goal.invariant-loop-index
invariant-loop-index l = l.index ≤ length l.waits.base
