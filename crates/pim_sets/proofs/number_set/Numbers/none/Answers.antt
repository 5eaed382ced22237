use Rattle.std.proofs.Common.{[], refl}
use Rattle.pim_sets.proofs.Left.{left_none}
use Rattle.pim_sets.proofs.number_set.Numbers.none.Goals as goal

pub returns : goal.returns
returns c = left_none [] 0 0 0 refl refl
