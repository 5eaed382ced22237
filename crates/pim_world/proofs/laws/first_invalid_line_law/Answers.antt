use Rattle.pim_world.proofs.Fronts.{at_most_one_is_first, valid_has_none}
use Rattle.pim_world.proofs.laws.first_invalid_line_law.Goals as goal

pub returns-clause-at_most_one : goal.returns-clause-at_most_one
returns-clause-at_most_one c = at_most_one_is_first

pub returns-clause-valid : goal.returns-clause-valid
returns-clause-valid c = valid_has_none
