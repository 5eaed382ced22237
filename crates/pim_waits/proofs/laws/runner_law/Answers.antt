use Rattle.pim_waits.proofs.Runners.{runner_law as law}
use Rattle.pim_waits.proofs.laws.runner_law.Goals as goal

pub returns : goal.returns
returns c = law
