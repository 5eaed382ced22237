use Rattle.pim_base.proofs.Effective.{base_law as law}
use Rattle.pim_base.proofs.laws.base_law.Goals as goal

pub returns : goal.returns
returns c = law
