-- Each task's set of the mutexes that it owns.
use Rattle.std.specs.Prelude.{◌≡◌, ◌≤◌, ℕ, false, List, [], length, Option, None, unwrap_or}
use Rattle.std.specs.Option.{option_map_or}
use Rattle.pim_base.specs.Lists.{nth, holds}
use Rattle.pim_sets.specs.declared.number_set.NumberSet.{NumberSet}
use Rattle.pim_sets.specs.Numbers.{has}

-- the bits of the task's set
abbrev pub words_in : List NumberSet → ℕ → List ℕ
words_in sets t = option_map_or (λ (s : NumberSet). s.words) (nth sets t) []

-- there is a set for each task, and all are empty
pub record AreEmpty (tasks : ℕ) (sets : List NumberSet) : Type 0 where
  pub len : length sets ≡ tasks
  pub none : (t m : ℕ) → 1 ≤ t → t ≤ tasks → has (words_in sets t) m ≡ false

-- the owner of the mutex
abbrev pub owner_in : List (Option ℕ) → ℕ → Option ℕ
owner_in owners m = unwrap_or (nth owners m) None

-- there is a set for each task, and it has the mutexes whose owner the task is
pub record AreOwned (tasks : ℕ) (owners : List (Option ℕ)) (sets : List NumberSet) : Type 0 where
  pub len : length sets ≡ tasks
  pub members : (t m : ℕ) → 1 ≤ t → t ≤ tasks → has (words_in sets t) m ≡ holds (owner_in owners m) t
