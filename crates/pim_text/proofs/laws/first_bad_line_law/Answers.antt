use Rattle.pim_text.proofs.FirstBadLemmas.{trace_fronts, at_most_one_is_first, valid_has_none}
use Rattle.pim_text.proofs.laws.first_bad_line_law.Goals as goal

pub returns-clause-at_most_one : goal.returns-clause-at_most_one
returns-clause-at_most_one c = at_most_one_is_first _ trace_fronts

pub returns-clause-valid : goal.returns-clause-valid
returns-clause-valid c = valid_has_none _ trace_fronts
