use Rattle.pim_base.proofs.ProtocolKinds.{kind_law as law}
use Rattle.pim_base.proofs.laws.kind_law.Goals as goal

pub returns : goal.returns
returns c = law
