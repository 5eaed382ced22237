use Rattle.pim_base.proofs.Reasoned.{reason_law as law}
use Rattle.pim_base.proofs.laws.reason_law.Goals as goal

pub returns : goal.returns
returns c = law
