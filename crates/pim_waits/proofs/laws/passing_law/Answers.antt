use Rattle.pim_waits.proofs.Blaming.{passing_law as law}
use Rattle.pim_waits.proofs.laws.passing_law.Goals as goal

pub returns : goal.returns
returns c = law
