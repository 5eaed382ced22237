use Rattle.pim_rows.proofs.SectionTimes.{used_law, without_off_law}
use Rattle.pim_rows.proofs.laws.section_times_law.Goals as goal

pub returns-clause-used : goal.returns-clause-used
returns-clause-used c = used_law

pub returns-clause-without_off : goal.returns-clause-without_off
returns-clause-without_off c = without_off_law
