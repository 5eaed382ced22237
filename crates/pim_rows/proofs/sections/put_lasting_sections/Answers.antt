use Rattle.std.proofs.Common.{◌+◌, sym, ◌∙◌, ap}
use Rattle.pim_rows.specs.Found.{lasting_section}
use Rattle.pim_rows.proofs.Ended.{fold_numbers-more}
use Rattle.pim_rows.proofs.sections.put_lasting_sections.Goals as goal

pub loop-i-preserved : goal.loop-i-preserved
loop-i-preserved c ms w are off =
    c.in_ok-put_lasting_section.ensures ms w are off
    ∙ ap (λ rows. lasting_section ms rows (c.loop-i.i + 1)) (c.loop-i.invariant ms w are off)
    ∙ sym (fold_numbers-more (lasting_section ms) c.args.table.now c.loop-i.i)
