use Rattle.pim_base.proofs.InOrder.{queue_law as law}
use Rattle.pim_base.proofs.laws.queue_law.Goals as goal

pub returns : goal.returns
returns c = law
