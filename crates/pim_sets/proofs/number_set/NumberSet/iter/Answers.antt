use Rattle.pim_sets.proofs.Left.{left_all}
use Rattle.pim_sets.proofs.number_set.NumberSet.iter.Goals as goal

pub returns : goal.returns
returns c = left_all c.args.self.now.words c.args.self.now.filled c.args.self.now.told
