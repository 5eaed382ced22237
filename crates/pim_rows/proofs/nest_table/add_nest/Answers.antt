use Rattle.pim_rows.specs.Found.{with_nest}
use Rattle.pim_rows.proofs.TableLemmas.{put_back}
use Rattle.pim_rows.proofs.nest_table.add_nest.Goals as goal

pub returns : goal.returns
returns c =
    put_back c.args.key (with_nest c.args.taken c.args.line)
    _ _ _ _ c.get-had.ensures.ascending c.get-had.ensures.value
    c.in_ok-all.ensures c.in_ok-set.ensures
