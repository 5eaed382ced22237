use Rattle.pim_base.proofs.Steady.{same_run_law as law}
use Rattle.pim_base.proofs.laws.same_run_law.Goals as goal

pub returns : goal.returns
returns c = law
