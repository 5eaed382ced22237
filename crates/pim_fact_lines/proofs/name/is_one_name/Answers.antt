use Rattle.std.proofs.Common.{◌∙◌}
use Rattle.pim_fact_lines.proofs.Names.{one_name}
use Rattle.pim_fact_lines.proofs.name.is_one_name.Goals as goal

pub returns-in-Some : goal.returns-in-Some
returns-in-Some c = rw c.in-Some.is (c.is_name.ensures ∙ one_name c.in-Some.bytes.now)
