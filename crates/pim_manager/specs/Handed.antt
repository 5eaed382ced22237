-- The mutexes that a step hands over.
use Rattle.std.specs.Prelude.{ℕ, ◌&&◌, not, List, Option, None, if◌then◌else◌}
use Rattle.std.specs.List.{filter_map}
use Rattle.std.specs.Option.{option_map}
use Rattle.pim_base.specs.State.{State, owner_of, mutex_numbers}
use Rattle.pim_base.specs.Checks.{is_owned}
use Rattle.pim_base.specs.Counts.{same_owner}
use Rattle.pim_manager.specs.declared.handed_mutexes.HandedMutex.{HandedMutex}

-- the mutex with its owner, if it has one
abbrev pub with_its_owner : State → ℕ → Option HandedMutex
with_its_owner S m = option_map (λ t. record { mutex = m; task = t }) (owner_of S m)

-- the mutex with its new owner, if another task owned it before
abbrev pub handed_mutex : State → State → ℕ → Option HandedMutex
handed_mutex S T m =
    if is_owned S m && not (same_owner (owner_of S m) (owner_of T m)) then with_its_owner T m else None

-- the mutexes that went from one owner to another one, in ascending order
abbrev pub handed_mutexes : State → State → List HandedMutex
handed_mutexes S T = filter_map (handed_mutex S T) (mutex_numbers S)
