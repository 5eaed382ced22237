-- The mutexes for which threads wait.
use Rattle.std.specs.Prelude.{ℕ, Option}
use Rattle.std.specs.Option.{option_map}
use Rattle.pim_base.specs.State.{State, wait_of}
use Rattle.pim_base.specs.declared.steps.Wait.{Wait}

-- the mutex that a thread awaits
abbrev pub awaited_of : State → ℕ → Option ℕ
awaited_of S t = option_map (λ (w : Wait). w.mutex) (wait_of S t)
