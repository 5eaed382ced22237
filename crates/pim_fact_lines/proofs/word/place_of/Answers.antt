use Rattle.std.proofs.Common.{arith, eqb, eq-eqb, subst}
use Rattle.pim_fact_lines.proofs.Cuts.{NoneBelow, found_at, found_nowhere}
use Rattle.pim_fact_lines.proofs.word.place_of.Goals as goal

pub returns-then-bytes-place : goal.returns-then-bytes-place
returns-then-bytes-place c =
    found_at (λ b. eqb b c.args.separator) c.args.bytes.now c.loop-place.place
    (omega arith) c.loop-place.invariant
    (eq-eqb _ _ c.if-bytes-place.true)

pub returns : goal.returns
returns c =
    found_nowhere (λ b. eqb b c.args.separator) c.args.bytes.now
    (subst (λ n. NoneBelow (λ b. eqb b c.args.separator) c.args.bytes.now n)
    (omega arith) c.loop-place.invariant)
