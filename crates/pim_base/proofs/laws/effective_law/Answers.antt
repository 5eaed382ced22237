use Rattle.pim_base.proofs.Effective.{effective_law as law}
use Rattle.pim_base.proofs.laws.effective_law.Goals as goal

pub returns : goal.returns
returns c = law
