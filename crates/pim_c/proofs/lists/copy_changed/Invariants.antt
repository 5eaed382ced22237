use Rattle.std.proofs.Common.{List}
use Rattle.pim_manager.specs.declared.changed_tasks.ChangedTask.{ChangedTask}
use Rattle.pim_c.specs.Shapes.{c_changed_task}
use Rattle.pim_c.proofs.Copies.{Copying}
use Rattle.pim_c.proofs.lists.copy_changed.Given as goal

-- some are copied, as far as there is room, and the others are still to come
abbrev pub invariant-loop-changed : goal.invariant-loop-changed
invariant-loop-changed l = (done : List ChangedTask) × Copying c_changed_task l.held.changed done l.changed-iterator l.count l.to l.fn.to
