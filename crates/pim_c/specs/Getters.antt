-- The values that C may ask of a handle, with or without a manager.
use Rattle.std.specs.Prelude.{ℕ, length, Option, unwrap_or}
use Rattle.std.specs.Option.{option_map_or, option_map}
use Rattle.pim_base.specs.State.{State, base_of, count_of, owner_of, protocol_of, wait_of}
use Rattle.pim_base.specs.Priorities.{effective_priority}
use Rattle.pim_base.specs.Reasons.{reason_of}
use Rattle.pim_base.specs.declared.steps.Wait.{Wait}
use Rattle.pim_manager.specs.Known.{of_task, of_mutex}
use Rattle.pim_ffi.specs.Protocols.{c_protocol, no_protocol}
use Rattle.pim_c.specs.Shapes.{c_reason, no_reason}
use Rattle.pim_manager.specs.Changed.{TrackedState}
use Rattle.pim_ffi.specs.declared.numbers.TheConstants.{UNKNOWN}
use Rattle.pim_ffi.specs.declared.protocol.CProtocol.{CProtocol}
use Rattle.pim_c.specs.declared.reason.CReason.{CReason}

-- a value of the manager's state, or `none` if there is no manager
abbrev pub in_manager : {X : Type 0} → Option TrackedState → X → (State → X) → X
in_manager held none what = option_map_or (λ (h : TrackedState). what h.state) held none

abbrev pub task_count : Option TrackedState → ℕ
task_count held = in_manager held 0 (λ S. length S.base)

abbrev pub mutex_count : Option TrackedState → ℕ
mutex_count held = in_manager held 0 (λ S. length S.protocol)

abbrev pub ticket_in : Option TrackedState → ℕ
ticket_in held = in_manager held 0 (λ S. S.next)

-- the effective priority of the task, or 0 if it is unknown
abbrev pub effective_in : Option TrackedState → ℕ → ℕ
effective_in held t = in_manager held 0 (λ S. unwrap_or (of_task S t (effective_priority S t)) 0)

-- the base priority of the task, or 0 if it is unknown
abbrev pub base_in : Option TrackedState → ℕ → ℕ
base_in held t = in_manager held 0 (λ S. unwrap_or (of_task S t (base_of S t)) 0)

-- why the task has its effective priority
abbrev pub reason_in : Option TrackedState → ℕ → CReason
reason_in held t = in_manager held no_reason (λ S. option_map_or c_reason (of_task S t (reason_of S t)) no_reason)

-- a number, or 0 for None
abbrev pub or_zero : Option ℕ → ℕ
or_zero n = unwrap_or n 0

-- the mutex that the task waits for, 0 if it doesn't wait, or UNKNOWN if the task is unknown
abbrev pub waits_for_in : Option TrackedState → ℕ → ℕ
waits_for_in held t =
    in_manager held UNKNOWN (λ S. option_map_or or_zero (of_task S t (option_map (λ (w : Wait). w.mutex) (wait_of S t))) UNKNOWN)

-- the owner of the mutex, 0 if the mutex is free, or UNKNOWN if it is unknown
abbrev pub owner_in : Option TrackedState → ℕ → ℕ
owner_in held m = in_manager held UNKNOWN (λ S. option_map_or or_zero (of_mutex S m (owner_of S m)) UNKNOWN)

-- how often the owner of the mutex has locked it, 0 if the mutex is free, or UNKNOWN if it is unknown
abbrev pub count_in : Option TrackedState → ℕ → ℕ
count_in held m = in_manager held UNKNOWN (λ S. unwrap_or (of_mutex S m (count_of S m)) UNKNOWN)

-- the protocol of the mutex
abbrev pub protocol_in : Option TrackedState → ℕ → CProtocol
protocol_in held m =
    in_manager held no_protocol (λ S. option_map_or c_protocol (of_mutex S m (protocol_of S m)) no_protocol)
