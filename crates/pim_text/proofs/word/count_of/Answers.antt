use Rattle.pim_text.proofs.WordLemmas.{zero_read, count_read}
use Rattle.pim_text.proofs.word.count_of.Goals as goal

pub returns-then-is : goal.returns-then-is
returns-then-is c = zero_read c.args.word.now c.if-is.ensures

pub returns-else-is : goal.returns-else-is
returns-else-is c = count_read c.args.word.now c.number_of.result c.if-is.ensures c.number_of.ensures
