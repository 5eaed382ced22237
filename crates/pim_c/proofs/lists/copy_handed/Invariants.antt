use Rattle.std.proofs.Common.{List}
use Rattle.pim_manager.specs.declared.handed_mutexes.HandedMutex.{HandedMutex}
use Rattle.pim_c.specs.Shapes.{c_handed}
use Rattle.pim_c.proofs.Copies.{Copying}
use Rattle.pim_c.proofs.lists.copy_handed.Given as goal

-- some are copied, as far as there is room, and the others are still to come
abbrev pub invariant-loop-handed : goal.invariant-loop-handed
invariant-loop-handed l = (done : List HandedMutex) × Copying c_handed l.held.handed done l.handed-iterator l.count l.to l.fn.to
