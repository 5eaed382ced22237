use Rattle.std.proofs.Common.{◌∙◌, arith, below_more}
use Rattle.std.proofs.lemmas.List.{take_rest}
use Rattle.pim_fact_lines.proofs.Numbers.{value_more}
use Rattle.pim_fact_lines.proofs.FirstNumbers.{some_before, some_all, none_other, none_long}
use Rattle.pim_fact_lines.proofs.word.cut_digits.Goals as goal

pub returns-then-bytes-place-eq32 : goal.returns-then-bytes-place-eq32
returns-then-bytes-place-eq32 c =
    let so_far = c.loop-place.invariant in
    rw take_rest
    (some_before
    c.args.bytes.now c.loop-place.place so_far.digits c.loop-place.value c.loop-place-test.true
    c.requires.first c.if-bytes-place-eq32.true so_far.small so_far.value)

pub returns-in_err-digit : goal.returns-in_err-digit
returns-in_err-digit c =
    rw c.from_residual.ensures
    (none_other
    c.args.bytes.now c.loop-place.place c.loop-place.invariant.digits c.loop-place-test.true
    c.if-bytes-place-eq32.false c.in_err-digit.ensures)

pub returns-then-value-gt999999999999999999 : goal.returns-then-value-gt999999999999999999
returns-then-value-gt999999999999999999 c =
    let so_far = c.loop-place.invariant in
    none_long
    c.args.bytes.now c.loop-place.place so_far.digits c.loop-place.value c.loop-place-test.true
    c.if-bytes-place-eq32.false so_far.value (omega arith)

pub loop-place-preserved : goal.loop-place-preserved
loop-place-preserved c =
    let so_far = c.loop-place.invariant in
    let (inside, low, digit) = c.in_ok-digit.ensures in
    record {
      small = omega (arith, low, c.from.ensures);
      value =
          value_more c.args.bytes.now
          c.loop-place.place c.loop-place.value _ c.loop-place-test.true so_far.value
          (c.from.ensures ∙ digit);
      digits = below_more _ _ so_far.digits inside;
    }

pub returns : goal.returns
returns c =
    let so_far = c.loop-place.invariant in
    some_all c.args.bytes.now c.loop-place.place so_far.digits c.loop-place.value
    (omega arith) c.requires.some
    c.requires.first so_far.small so_far.value
