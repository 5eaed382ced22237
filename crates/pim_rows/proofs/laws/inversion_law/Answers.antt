use Rattle.pim_rows.proofs.Inversions.{inversion_law as law}
use Rattle.pim_rows.proofs.laws.inversion_law.Goals as goal

pub returns : goal.returns
returns c = law
