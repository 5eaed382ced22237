use Rattle.pim_rows.proofs.Bounds.{bounds_law as law}
use Rattle.pim_rows.proofs.laws.bounds_law.Goals as goal

pub returns : goal.returns
returns c = law
