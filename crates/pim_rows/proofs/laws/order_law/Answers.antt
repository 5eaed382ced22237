use Rattle.pim_rows.proofs.Clock.{order_law as law}
use Rattle.pim_rows.proofs.laws.order_law.Goals as goal

pub returns : goal.returns
returns c = law
