use Rattle.pim_waits.proofs.Blaming.{blame_law, blame_exists_law}
use Rattle.pim_waits.proofs.laws.blame_law.Goals as goal

pub returns-clause-blamed : goal.returns-clause-blamed
returns-clause-blamed c = blame_law

pub returns-clause-exists : goal.returns-clause-exists
returns-clause-exists c = blame_exists_law
