use Rattle.pim_rows.proofs.SectionOwners.{section_owner_law as law}
use Rattle.pim_rows.proofs.laws.section_owner_law.Goals as goal

pub returns : goal.returns
returns c = law
