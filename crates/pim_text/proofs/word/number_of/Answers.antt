use Rattle.std.proofs.Common.{[]}
use Rattle.pim_text.proofs.WordLemmas.{cut_none, one_number, only_word, number_goes_on}
use Rattle.pim_text.proofs.word.number_of.Goals as goal

pub returns-in_err-number : goal.returns-in_err-number
returns-in_err-number c = rw c.from_residual.ensures (λ n is e.
    c.in_err-number.ensures n [] is (one_number c.args.word.now n is.1 e))

pub returns-in_default-None : goal.returns-in_default-None
returns-in_default-None c =
    let read = c.in_ok-number.ensures in
    (read.0, only_word _ _ (cut_none _ _ _ read.1 c.in_default-None.is-1))

pub returns-in_default-Some : goal.returns-in_default-Some
returns-in_default-Some c =
    number_goes_on _ _ _ _ c.in_ok-number.ensures.1 c.in_default-Some.is-1
