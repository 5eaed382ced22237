use Rattle.pim_chain.proofs.Releasing.{Releasing}
use Rattle.pim_chain.proofs.tables.Tables.hand_over_all.Given as goal

abbrev pub invariant-loop-mutex : goal.invariant-loop-mutex
invariant-loop-mutex l = Releasing l.fn.self l.self l.fn.task l.mutex-iterator l.released l.fn.visits l.visits
