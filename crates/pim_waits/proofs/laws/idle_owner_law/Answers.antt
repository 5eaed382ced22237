use Rattle.pim_waits.proofs.Idle.{idle_owner_law as law}
use Rattle.pim_waits.proofs.laws.idle_owner_law.Goals as goal

pub returns : goal.returns
returns c = law
