use Rattle.pim_rows.proofs.Sums.{sums_law as law}
use Rattle.pim_rows.proofs.laws.sums_law.Goals as goal

pub returns : goal.returns
returns c = law
