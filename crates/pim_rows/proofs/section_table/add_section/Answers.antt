use Rattle.pim_rows.specs.Found.{with_section}
use Rattle.pim_rows.proofs.TableLemmas.{put_back}
use Rattle.pim_rows.proofs.section_table.add_section.Goals as goal

pub returns : goal.returns
returns c =
    put_back c.args.key
    (with_section c.args.section) _ _ _ _ c.get-had.ensures.ascending c.get-had.ensures.value
    c.in_ok-all.ensures c.in_ok-set.ensures
