-- Another protocol for a mutex.
use Rattle.std.specs.Prelude.{ℕ, Option, Some, None, if◌then◌else◌}
use Rattle.pim_base.specs.State.{State}
use Rattle.pim_base.specs.Checks.{unknown_mutex, is_owned}
use Rattle.pim_base.specs.declared.steps.Refusal.{Refusal}

-- why m can't have another protocol, if it can't: it is unknown, or has an owner. (POSIX.1-2017,
-- pthread_mutex_destroy: EINVAL and EBUSY)
abbrev pub protocol_refusal : State → ℕ → Option Refusal
protocol_refusal S m =
    if unknown_mutex S m then Some Refusal.NoMutex
    else if is_owned S m then Some Refusal.Busy
    else None
