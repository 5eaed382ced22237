use Rattle.pim_base.proofs.Counting.{changed_count_law as law}
use Rattle.pim_base.proofs.laws.changed_count_law.Goals as goal

pub returns : goal.returns
returns c = law
