use Rattle.pim_base.proofs.Steady.{steady_run_law as law}
use Rattle.pim_base.proofs.laws.steady_run_law.Goals as goal

pub returns : goal.returns
returns c = law
