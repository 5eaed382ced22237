-- What a kernel asks for itself, where no task asks.
use Rattle.std.specs.Prelude.{◌≡◌, ◌≢◌, ℕ, [], true, None, Some}
use Rattle.pim_base.specs.State.{State, IsTask, owner_of, wait_of}
use Rattle.pim_base.specs.Checks.{is_owned}
use Rattle.pim_base.specs.Reports.{changed_tasks}
use Rattle.pim_base.specs.Steps.{answer, after_reply, mutex_of, reply_of, after}
use Rattle.pim_base.specs.declared.steps.Op.{Op}
use Rattle.pim_base.specs.declared.steps.Reply.{Reply}
use Rattle.pim_manager.specs.Changed.{TrackedState, listed}
use Rattle.pim_manager.specs.declared.kernel_op.KernelOp.{KernelOp}

-- the same operation, as a task asks for it
abbrev pub as_op : KernelOp → Op
as_op (KernelOp.Cancel t) = Op.Cancel t
as_op (KernelOp.SetBase t p) = Op.SetBase t p
as_op (KernelOp.SetCeiling m p) = Op.SetCeiling m p

-- the reply to the kernel: the answer to number 0, which is no task's
abbrev pub kernel_reply : State → KernelOp → Reply
kernel_reply S k = answer S 0 (as_op k)

-- the state then
abbrev pub after_kernel : State → KernelOp → State
after_kernel S k = after_reply S 0 (as_op k) (kernel_reply S k)

-- that state, and the tasks whose effective priority differs, as they are then. No mutex is handed over.
abbrev pub kernel_stepped : TrackedState → KernelOp → TrackedState
kernel_stepped h k = record {
  state = after_kernel h.state k;
  changed = listed (after_kernel h.state k) (changed_tasks h.state (after_kernel h.state k));
  handed = [];
}

-- a known task that doesn't wait, nor owns the mutex that the operation names
pub record IsBystander (S : State) (t : ℕ) (k : KernelOp) : Type 0 where
  pub known : IsTask S t
  pub idle : wait_of S t ≡ None
  pub apart : owner_of S (mutex_of (as_op k)) ≢ Some t

-- a bystander that asks for the same is answered as the kernel is, and the same changes
pub record IsAnsweredAlike (S : State) (t : ℕ) (k : KernelOp) : Type 0 where
  pub reply : reply_of S (record { actor = t; op = as_op k }) ≡ kernel_reply S k
  pub state : after S (record { actor = t; op = as_op k }) ≡ after_kernel S k

-- the operation is the new ceiling of a mutex that has an owner
pub record IsForOwned (S : State) (k : KernelOp) : Type 0 where
  pub mutex : ℕ
  pub level : ℕ
  pub sets : k ≡ KernelOp.SetCeiling mutex level
  pub owned : is_owned S mutex ≡ true
