use Rattle.pim_base.proofs.OtherProtocol.{protocol_law as law}
use Rattle.pim_base.proofs.laws.protocol_law.Goals as goal

pub returns : goal.returns
returns c = law
