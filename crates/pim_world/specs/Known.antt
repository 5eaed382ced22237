-- What a world keeps of places and levels, beside what the lines say.
use Rattle.std.specs.Prelude.{◌≡◌, ◌≤◌, ℕ, Bool, false, List, Option, Some, None, unwrap_or}
use Rattle.pim_base.specs.Lists.{nth}
use Rattle.pim_base.specs.State.{State, IsTask, IsMutex}

-- the places of what is declared are places of the state
abbrev pub AreTasks : State → (ℕ → Option ℕ) → Type 0
AreTasks S thread = (n t : ℕ) → thread n ≡ Some t → IsTask S t

abbrev pub AreMutexes : State → (ℕ → Option ℕ) → Type 0
AreMutexes S mutex = (n m : ℕ) → mutex n ≡ Some m → IsMutex S m

-- the place of each number from 1 to the last one is that number
abbrev pub AreInOrder : ℕ → (ℕ → Option ℕ) → Type 0
AreInOrder last place = (n : ℕ) → 1 ≤ n → n ≤ last → place n ≡ Some n

-- no thread has a known level if none was run
abbrev pub AreKnown : Bool → List (Option ℕ) → Type 0
AreKnown is_run runs = is_run ≡ false → (t : ℕ) → unwrap_or (nth runs t) None ≡ None
