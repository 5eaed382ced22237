use Rattle.std.proofs.Common.{arith}
use Rattle.pim_base.specs.Spelling.{recorded_words}
use Rattle.pim_text.proofs.LineLemmas.{no_step}
use Rattle.pim_text.proofs.line.read_step.Goals as goal

pub returns-in_default : goal.returns-in_default
returns-in_default c =
    no_step _ _ c.requires.number (λ line is e.
    c.in_default.ensures line.step.op (recorded_words line.recorded) is.1 (let parts = c.cut.ensures.parts in cc))

pub returns-in_err-recorded : goal.returns-in_err-recorded
returns-in_err-recorded c =
    rw c.from_residual.ensures
    (no_step _ _ c.requires.number (λ line is e.
    let parts = c.cut.ensures.parts in
    let read = c.in-Some.ensures in
    let none = c.in_err-recorded.ensures in grind arith))
