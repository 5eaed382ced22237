use Rattle.pim_base.proofs.NoneOnly.{none_law as law}
use Rattle.pim_base.proofs.laws.none_law.Goals as goal

pub returns : goal.returns
returns c = law
