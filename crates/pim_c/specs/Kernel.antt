-- Who asks for a step in C: a task, or the kernel for itself.
use Rattle.std.specs.Prelude.{◌==◌, Option, Some, None, if◌then◌else◌}
use Rattle.std.specs.Option.{option_map_or}
use Rattle.pim_base.specs.State.{State}
use Rattle.pim_base.specs.Steps.{reply_of, after}
use Rattle.pim_base.specs.declared.steps.Op.{Op}
use Rattle.pim_base.specs.declared.steps.Step.{Step}
use Rattle.pim_base.specs.declared.steps.Reply.{Reply}
use Rattle.pim_manager.specs.Changed.{TrackedState, stepped}
use Rattle.pim_manager.specs.Kernel.{kernel_reply, after_kernel, kernel_stepped}
use Rattle.pim_manager.specs.declared.kernel_op.KernelOp.{KernelOp}
use Rattle.pim_c.specs.declared.numbers.TheConstants.{KERNEL}

-- the same operation, if the kernel may ask for it
abbrev pub own_op : Op → Option KernelOp
own_op (Op.Lock m) = None
own_op (Op.Try m) = None
own_op (Op.Unlock m) = None
own_op Op.ReleaseAll = None
own_op (Op.Cancel t) = Some (KernelOp.Cancel t)
own_op (Op.SetBase t p) = Some (KernelOp.SetBase t p)
own_op (Op.SetCeiling m p) = Some (KernelOp.SetCeiling m p)

-- what the kernel asks for, if KERNEL stands where a task asks
abbrev pub kernel_op : Step → Option KernelOp
kernel_op step = if step.actor == KERNEL then own_op step.op else None

-- the reply to the kernel or to the task
abbrev pub c_reply : State → Step → Reply
c_reply S step = option_map_or (kernel_reply S) (kernel_op step) (reply_of S step)

-- the state then
abbrev pub c_after : State → Step → State
c_after S step = option_map_or (after_kernel S) (kernel_op step) (after S step)

-- the value of a manager then
abbrev pub c_stepped : TrackedState → Step → TrackedState
c_stepped h step = option_map_or (kernel_stepped h) (kernel_op step) (stepped h step)
