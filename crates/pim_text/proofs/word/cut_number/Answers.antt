use Rattle.std.proofs.Common.{◌+◌, ◌∙◌, arith, below_more, sym, eq-eqb, length, ◌≡◌}
use Rattle.std.proofs.lemmas.Bool.{eqb-true, ne_eqb}
use Rattle.std.proofs.lemmas.List.{take_rest}
use Rattle.pim_text.proofs.NumberLemmas.{value_more}
use Rattle.pim_text.proofs.FirstNumberLemmas.{no_space_in_digits, not_empty, not_first, first_of_word, digit_of_word}
use Rattle.pim_text.proofs.FirstNumberLemmas.{front_of_word, number_cut, cut_at_space, cut_nowhere}
use Rattle.pim_text.proofs.word.cut_number.Goals as goal

pub returns-then-is_empty : goal.returns-then-is_empty
returns-then-is_empty c = λ n ws is e.
    let first = first_of_word c.args.bytes.now n ws is e in
    let none : length c.args.bytes.now ≡ 0 = eqb-true _ _ (sym c.is_empty.ensures ∙ c.if-is_empty.true) in
    omega (arith, first, none)

pub returns-then-bytes-lt49 : goal.returns-then-bytes-lt49
returns-then-bytes-lt49 c = λ n ws is e.
    let first = first_of_word c.args.bytes.now n ws is e in omega (arith, first)

pub returns-then-bytes-place-eq32 : goal.returns-then-bytes-place-eq32
returns-then-bytes-place-eq32 c =
    let bytes = c.args.bytes.now in
    let place = c.loop-place.place in
    let value = c.loop-place.value in
    let before = c.loop-place.invariant in
    let some = not_first bytes place (omega arith) c.if-bytes-place-eq32.true in
    let cut =
    number_cut bytes place value some (omega arith) (omega arith) before.small before.digits before.value in
    let space = eq-eqb _ _ c.if-bytes-place-eq32.true in
    rw take_rest
    (cut.0, cut_at_space bytes place value (omega arith) (no_space_in_digits _ _ before.digits) space cut.1)

pub returns-in_err-digit : goal.returns-in_err-digit
returns-in_err-digit c = rw c.from_residual.ensures (λ n ws is e.
    let digits = no_space_in_digits _ _ c.loop-place.invariant.digits in
    let here = ne_eqb _ _ c.if-bytes-place-eq32.false in
    c.in_err-digit.ensures (digit_of_word c.args.bytes.now n ws is e c.loop-place.place digits here (omega arith)))

pub returns-then-value-gt65535 : goal.returns-then-value-gt65535
returns-then-value-gt65535 c = λ n ws is e.
    let bytes = c.args.bytes.now in
    let place = c.loop-place.place in
    let before = c.loop-place.invariant in
    let (inside, digit) = c.in_ok-digit.ensures in
    let digits = no_space_in_digits _ _ (below_more _ _ before.digits inside) in
    let front = front_of_word bytes n ws is e (place + 1) digits (omega arith) in
    let value =
    value_more bytes place c.loop-place.value _ (omega arith) before.value (c.from.ensures ∙ digit) in
    omega (arith, front, value)

pub loop-place-preserved : goal.loop-place-preserved
loop-place-preserved c =
    let bytes = c.args.bytes.now in
    let place = c.loop-place.place in
    let before = c.loop-place.invariant in
    let (inside, digit) = c.in_ok-digit.ensures in
    record {
      small = omega arith;
      value = value_more bytes place c.loop-place.value _ (omega arith) before.value (c.from.ensures ∙ digit);
      digits = below_more _ _ before.digits inside;
    }

pub returns : goal.returns
returns c =
    let bytes = c.args.bytes.now in
    let place = c.loop-place.place in
    let value = c.loop-place.value in
    let before = c.loop-place.invariant in
    let some = not_empty bytes (omega arith) in
    let cut =
    number_cut bytes place value (omega (arith, some)) (omega arith) (omega arith) before.small before.digits
    before.value in
    (cut.0, cut_nowhere bytes place value (omega arith) (no_space_in_digits _ _ before.digits) cut.1)
