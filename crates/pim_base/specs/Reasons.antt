-- Why a task has its effective priority: the first of its base, a ceiling and a waiter that gives it. (The names are
-- this project's; POSIX.1-2017 has the three causes)
use Rattle.std.specs.Prelude.{ℕ, ◌==◌, ◌&&◌, Bool, true, false, Option, Some, None, if◌then◌else◌}
use Rattle.std.specs.List.{find, list_any}
use Rattle.std.specs.Option.{option_map_or}
use Rattle.pim_base.specs.State.{State, base_of, owned, protocol_of}
use Rattle.pim_base.specs.Priorities.{ceiling_of, effective_priority}
use Rattle.pim_base.specs.Queues.{queue_of, first_of}
use Rattle.pim_base.specs.declared.steps.Protocol.{Protocol}
use Rattle.pim_base.specs.declared.steps.Reason.{Reason}

-- it is PTHREAD_PRIO_INHERIT, recursive or not
abbrev pub is_inherit : Protocol → Bool
is_inherit Protocol.None = false
is_inherit Protocol.Inherit = true
is_inherit Protocol.InheritRecursive = true
is_inherit (Protocol.Protect c) = false

-- m is a PRIO_INHERIT mutex, and a task waits for it at this priority
abbrev pub donates : State → ℕ → ℕ → Bool
donates S p m = is_inherit (protocol_of S m) && list_any (λ w. w.prio == p) (queue_of S m)

-- the first waiter of the mutex whose waiters donate the priority, if there is such a mutex
abbrev pub waiter_reason : State → Option ℕ → Reason
waiter_reason S None = Reason.Base
waiter_reason S (Some m) = option_map_or (λ w. Reason.Waiter w.task m) (first_of S m) Reason.Base

-- the least owned mutex with this ceiling, else the least owned one whose waiters donate the priority
abbrev pub owning_reason : State → ℕ → Option ℕ → Reason
owning_reason S t (Some m) = Reason.Ceiling m
owning_reason S t None = waiter_reason S (find (donates S (effective_priority S t)) (owned S t))

-- the base if that is the priority, else a mutex that the task owns
abbrev pub reason_of : State → ℕ → Reason
reason_of S t =
    if effective_priority S t == base_of S t then Reason.Base
    else owning_reason S t (find (λ m. ceiling_of S m == effective_priority S t) (owned S t))
