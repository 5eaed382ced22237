use Rattle.pim_shared.proofs.Made.{AllHaveMade}
use Rattle.pim_shared.proofs.gathering.is_interleaving.Given as goal

abbrev pub invariant-loop-index : goal.invariant-loop-index
invariant-loop-index l = AllHaveMade l.entries l.scripts l.index
