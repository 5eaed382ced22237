-- Values of known tasks and mutexes.
use Rattle.std.specs.Prelude.{ℕ, Option, Some, None, if◌then◌else◌}
use Rattle.pim_base.specs.State.{State}
use Rattle.pim_base.specs.Checks.{unknown_task, unknown_mutex}

-- the value if the task is known, or None
abbrev pub of_task : {X : Type 0} → State → ℕ → X → Option X
of_task S t x = if unknown_task S t then None else Some x

-- the value if the mutex is known, or None
abbrev pub of_mutex : {X : Type 0} → State → ℕ → X → Option X
of_mutex S m x = if unknown_mutex S m then None else Some x
