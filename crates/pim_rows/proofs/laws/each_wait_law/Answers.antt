use Rattle.pim_rows.proofs.EachWait.{each_wait_law as law}
use Rattle.pim_rows.proofs.laws.each_wait_law.Goals as goal

pub returns : goal.returns
returns c = law
