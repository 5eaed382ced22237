use Rattle.std.proofs.Common.{◌≡◌, drop}
use Rattle.pim_rows.specs.Rows.{is_least}
use Rattle.pim_rows.proofs.deadlocks.is_least.Given as goal

-- only the numbers that are left matter
abbrev pub invariant-loop-other : goal.invariant-loop-other
invariant-loop-other l =
    is_least l.number (drop l.other-index l.numbers) ≡ is_least l.number l.numbers
