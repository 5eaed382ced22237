use Rattle.std.proofs.Common.{List, map}
use Rattle.pim_manager.specs.declared.changed_prios.ChangedPrio.{ChangedPrio}
use Rattle.pim_manager.specs.Changed.{changed_prio}
use Rattle.pim_c.specs.Shapes.{c_changed_prio}
use Rattle.pim_c.proofs.Copies.{Copying}
use Rattle.pim_c.proofs.lists.copy_prios.Given as goal

-- some are copied, as far as there is room, and the others are still to come
abbrev pub invariant-loop-changed : goal.invariant-loop-changed
invariant-loop-changed l = (done : List ChangedPrio) × Copying c_changed_prio (map changed_prio l.held.changed) done l.changed-iterator l.count l.to l.fn.to
