use Rattle.std.proofs.Common.{◌-◌}
use Rattle.pim_base.proofs.HandOvers.{IsReleasedTo}
use Rattle.pim_plain.proofs.plain_manager.PlainManager.release_all.Given as goal

abbrev pub invariant-loop-number : goal.invariant-loop-number
invariant-loop-number l = IsReleasedTo l.fn.self l.self l.actor (l.number - 1) l.released
