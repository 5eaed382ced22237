use Rattle.std.proofs.Common.{eqb}
use Rattle.pim_fact_lines.proofs.Cuts.{NoneBelow}
use Rattle.pim_fact_lines.proofs.word.place_of.Given as goal

-- no separator came so far
abbrev pub invariant-loop-place : goal.invariant-loop-place
invariant-loop-place l = NoneBelow (λ b. eqb b l.separator) l.bytes l.place
