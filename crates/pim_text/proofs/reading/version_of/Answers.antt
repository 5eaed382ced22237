use Rattle.std.proofs.Common.{arith, sym, ◌∙◌}
use Rattle.pim_base.proofs.Versions.{first_version, second_version}
use Rattle.pim_text.proofs.ReadingLemmas.{other_version}
use Rattle.pim_text.proofs.reading.version_of.Goals as goal

pub returns-then-is : goal.returns-then-is
returns-then-is c = ((omega arith, omega arith), c.if-is.ensures ∙ sym first_version)

pub returns-then-is-2 : goal.returns-then-is-2
returns-then-is-2 c = ((omega arith, omega arith), c.if-is-2.ensures ∙ sym second_version)

pub returns-else-is-2 : goal.returns-else-is-2
returns-else-is-2 c = other_version c.args.line.now c.if-is.ensures c.if-is-2.ensures
