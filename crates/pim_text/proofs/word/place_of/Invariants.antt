use Rattle.std.proofs.Common.{◌≤◌, ◌-◌, eqb, length}
use Rattle.pim_text.proofs.SeparatorLemmas.{NoneBelow}
use Rattle.pim_text.proofs.word.place_of.Given as goal

-- no separator came so far
abbrev pub invariant-looks : goal.invariant-looks
invariant-looks l = record {
  inside : l.place ≤ length l.bytes;
  passed : NoneBelow (λ b. eqb b l.separator) l.bytes l.place;
}

abbrev pub decreases-looks : goal.decreases-looks
decreases-looks l = length l.bytes - l.place

abbrev pub invariant-steps : goal.invariant-steps
invariant-steps l = record {
  inside : l.place ≤ length l.bytes;
  passed : NoneBelow (λ b. eqb b l.separator) l.bytes l.place;
}

abbrev pub decreases-steps : goal.decreases-steps
decreases-steps l = length l.bytes - l.place
