-- The making of a manager, and its faults.
use Rattle.std.specs.Prelude.{ℕ, nat_lt, not, is_some, Bool, List, [], length, Option, if◌then◌else◌}
use Rattle.std.specs.List.{list_all, filter_map}
use Rattle.pim_base.specs.State.{start}
use Rattle.pim_base.specs.declared.limits.TheConstants.{MAX_TASKS, MAX_MUTEXES}
use Rattle.pim_base.specs.declared.steps.Protocol.{Protocol}
use Rattle.pim_ffi.specs.Protocols.{is_priority, priority_meant, protocol_meant}
use Rattle.pim_manager.specs.Changed.{TrackedState}
use Rattle.pim_c.specs.declared.numbers.TheConstants.{MADE, FAULT_OCCUPIED, FAULT_TOO_MANY_TASKS}
use Rattle.pim_c.specs.declared.numbers.TheConstants.{FAULT_TOO_MANY_MUTEXES, FAULT_BAD_BASE, FAULT_BAD_PROTOCOL}
use Rattle.pim_ffi.specs.declared.protocol.CProtocol.{CProtocol}

-- the numbers that are priorities
abbrev pub priorities_meant : List ℕ → List ℕ
priorities_meant ns = filter_map priority_meant ns

-- the struct means a protocol
abbrev pub is_protocol : CProtocol → Bool
is_protocol p = is_some (protocol_meant p)

-- the protocols that C means
abbrev pub protocols_meant : List CProtocol → List Protocol
protocols_meant ps = filter_map protocol_meant ps

-- the first fault of what C asks for, or MADE if it has no fault
abbrev pub first_fault : Option TrackedState → List ℕ → List CProtocol → ℕ
first_fault held bases protocols =
    if is_some held then FAULT_OCCUPIED
    else if nat_lt MAX_TASKS (length bases) then FAULT_TOO_MANY_TASKS
    else if nat_lt MAX_MUTEXES (length protocols) then FAULT_TOO_MANY_MUTEXES
    else if not (list_all is_priority bases) then FAULT_BAD_BASE
    else if not (list_all is_protocol protocols) then FAULT_BAD_PROTOCOL
    else MADE

-- a manager of these tasks and mutexes, before any step: all mutexes are free
abbrev pub made : List ℕ → List CProtocol → TrackedState
made bases protocols = record { state = start bases (protocols_meant protocols) 1; changed = []; handed = [] }
