use Rattle.pim_text.proofs.PlaceLemmas.{Reached}
use Rattle.pim_text.proofs.explaining.place.place_of.Given as goal

abbrev pub invariant-loop-passed : goal.invariant-loop-passed
invariant-loop-passed l = Reached l.text l.rest l._passed
