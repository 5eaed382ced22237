-- A free mutex that a task comes to own, even while it waits.
use Rattle.std.specs.Prelude.{ℕ, [], Option, Some, None, if◌then◌else◌}
use Rattle.pim_base.specs.State.{State, with_owner}
use Rattle.pim_base.specs.Checks.{unknown_task, unknown_mutex, is_owned}
use Rattle.pim_chain.specs.Adopted.{is_protect}
use Rattle.pim_manager.specs.Changed.{TrackedState}
use Rattle.pim_manager.specs.declared.adopt_fault.AdoptFault.{AdoptFault}

-- why t can't adopt m, if it can't: t or m is unknown, or m is a PROTECT mutex, whose ceiling would change t's priority,
-- or has an owner
abbrev pub adopt_fault : State → ℕ → ℕ → Option AdoptFault
adopt_fault S t m =
    if unknown_task S t then Some AdoptFault.NoTask
    else if unknown_mutex S m then Some AdoptFault.NoMutex
    else if is_protect S m then Some AdoptFault.Protect
    else if is_owned S m then Some AdoptFault.Busy
    else None

-- t owns m, no task is listed as changed, and no mutex as handed over
abbrev pub with_adopted : TrackedState → ℕ → ℕ → TrackedState
with_adopted h t m = record { state = with_owner h.state m (Some t); changed = []; handed = [] }
