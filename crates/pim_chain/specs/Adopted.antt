-- A mutex that a task may come to own while it waits.
use Rattle.std.specs.Prelude.{◌≡◌, ◌≢◌, ℕ, Bool, is_some, Some}
use Rattle.pim_base.specs.State.{State, protocol_of, wait_of}
use Rattle.pim_base.specs.Priorities.{ceiling}
use Rattle.pim_base.specs.declared.steps.Wait.{Wait}

-- the mutex is a PROTECT one
abbrev pub is_protect : State → ℕ → Bool
is_protect S m = is_some (ceiling (protocol_of S m))

-- no task waits for the mutex
abbrev pub IsUnawaited : State → ℕ → Type 0
IsUnawaited S m = (t : ℕ) (w : Wait) → wait_of S t ≡ Some w → w.mutex ≢ m
