use Rattle.pim_base.proofs.Steady.{steady_step_law as law}
use Rattle.pim_base.proofs.laws.steady_step_law.Goals as goal

pub returns : goal.returns
returns c = law
