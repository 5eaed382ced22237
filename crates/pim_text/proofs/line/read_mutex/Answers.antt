use Rattle.pim_text.proofs.WordLemmas.{cut_some, cut_none}
use Rattle.pim_text.proofs.LineLemmas.{mutex_no_number, mutex_no_protocol, no_word_protocol}
use Rattle.pim_text.proofs.line.read_mutex.Goals as goal

pub returns-in_err-number : goal.returns-in_err-number
returns-in_err-number c =
    rw c.from_residual.ensures (mutex_no_number _ _ _ c.cut.ensures.parts c.in_err-number.ensures)

pub returns-in_err-protocol : goal.returns-in_err-protocol
returns-in_err-protocol c =
    rw c.from_residual-in_err-protocol.ensures
    (mutex_no_protocol _ _ _ (cut_none _ _ _ c.cut.ensures.parts c.in_err-protocol.was) no_word_protocol)

pub returns-in_err-protocol-2 : goal.returns-in_err-protocol-2
returns-in_err-protocol-2 c =
    rw c.from_residual-in_err-protocol-2.ensures
    (mutex_no_protocol _ _ _ (cut_some _ _ _ _ c.cut.ensures.parts c.in_ok-protocol.was) c.in_err-protocol-2.ensures)
