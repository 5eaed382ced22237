use Rattle.pim_rows.proofs.DeadlockRows.{deadlock_law as law}
use Rattle.pim_rows.proofs.laws.deadlock_law.Goals as goal

pub returns : goal.returns
returns c = law
