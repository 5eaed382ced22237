use Rattle.pim_world.proofs.Steadiness.{steady_law as law}
use Rattle.pim_world.proofs.laws.steady_law.Goals as goal

pub returns : goal.returns
returns c = law
