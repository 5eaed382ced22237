use Rattle.pim_text.proofs.GrowthLemmas.{adds_line, no_line_read, later_line, not_allowed}
use Rattle.pim_text.proofs.reading.add_line.Goals as goal

pub returns-in_default : goal.returns-in_default
returns-in_default c = λ ls spells. no_line_read _ _ c.args.bytes.now ls c.in_default.ensures spells

pub returns-then-not-version_has : goal.returns-then-not-version_has
returns-then-not-version_has c =
    later_line _ _ c.args.bytes.now c.in-Some.line c.in-Some.ensures c.if-not-version_has.ensures

pub returns-then-not-allows : goal.returns-then-not-allows
returns-then-not-allows c = not_allowed _ _ c.args.bytes.now c.in-Some.line c.in-Some.ensures c.if-not-allows.ensures

pub returns : goal.returns
returns c =
    adds_line _ _ _ c.args.bytes.now c.in-Some.line c.add.result c.in-Some.ensures
    c.if-not-version_has.ensures
    c.if-not-allows.ensures
    c.add.ensures.added
