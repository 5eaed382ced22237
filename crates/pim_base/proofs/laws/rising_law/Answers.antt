use Rattle.pim_base.proofs.Effective.{rising_law as law}
use Rattle.pim_base.proofs.laws.rising_law.Goals as goal

pub returns : goal.returns
returns c = law
