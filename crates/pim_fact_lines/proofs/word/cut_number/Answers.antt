use Rattle.std.proofs.Common.{sym, ◌∙◌, arith}
use Rattle.std.proofs.lemmas.Bool.{eqb-true}
use Rattle.pim_fact_lines.proofs.FirstNumbers.{none_empty, none_low}
use Rattle.pim_fact_lines.proofs.word.cut_number.Goals as goal

pub returns-then-is_empty : goal.returns-then-is_empty
returns-then-is_empty c =
    rw c.in_ok-bytes.was
    (none_empty c.in_ok-bytes.bytes.now
    (eqb-true _ _ (sym c.is_empty.ensures ∙ c.if-is_empty.true)))

pub returns-then-bytes-lt49 : goal.returns-then-bytes-lt49
returns-then-bytes-lt49 c = rw c.in_ok-bytes.was (none_low c.in_ok-bytes.bytes.now (omega arith))
