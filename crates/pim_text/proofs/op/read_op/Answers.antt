use Rattle.std.proofs.Common.{inl, inr}
use Rattle.pim_text.proofs.OpLemmas.{no_target, no_level}
use Rattle.pim_text.proofs.op.read_op.Goals as goal

pub returns-in_err-number : goal.returns-in_err-number
returns-in_err-number c =
    rw c.from_residual.ensures (no_target _ _ c.if-is.ensures c.in_err-number.ensures)

pub returns-in_err-level : goal.returns-in_err-level
returns-in_err-level c =
    rw c.from_residual-in_err-level.ensures
    (no_level _ _ _ _ (inl c.if-is-6.ensures) c.in_ok-number.ensures.1 c.in_err-level.ensures)

pub returns-in_err-level-2 : goal.returns-in_err-level-2
returns-in_err-level-2 c =
    rw c.from_residual-in_err-level-2.ensures
    (no_level _ _ _ _ (inr c.if-is-7.ensures) c.in_ok-number.ensures.1 c.in_err-level-2.ensures)
