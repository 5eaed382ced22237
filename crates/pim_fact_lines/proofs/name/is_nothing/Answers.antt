use Rattle.pim_fact_lines.proofs.Fews.{nothing_left}
use Rattle.pim_fact_lines.proofs.name.is_nothing.Goals as goal

pub returns : goal.returns
returns c = nothing_left c.args.tail _ c.is_none.ensures
