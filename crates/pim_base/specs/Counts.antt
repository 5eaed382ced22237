-- How much a step changes: what the work of a walk is measured by.
use Rattle.std.specs.Prelude.{ℕ, zero, suc, ◌+◌, ◌==◌, Bool, true, false, not, cond, length, Option, Some, None}
use Rattle.pim_base.specs.State.{State, owner_of}
use Rattle.pim_base.specs.Priorities.{effective_priority}

-- how many of the numbers 1 to n pass the test
unfoldable pub count : ℕ → (ℕ → Bool) → ℕ
count zero test = 0
count (suc n) test = count n test + cond (test (suc n)) 1 0

-- how many of the tasks 1 to n have another priority
abbrev pub differing : ℕ → (ℕ → ℕ) → (ℕ → ℕ) → ℕ
differing n f g = count n (λ t. not (f t == g t))

-- the two owners are the same, or there are none
abbrev pub same_owner : Option ℕ → Option ℕ → Bool
same_owner None None = true
same_owner (Some t) (Some u) = t == u
same_owner _ _ = false

-- how many tasks have another effective priority
abbrev pub changed_task_count : State → State → ℕ
changed_task_count S T = differing (length S.base) (effective_priority S) (effective_priority T)

-- how many mutexes have another owner; to become free or owned counts, too
abbrev pub handed_mutex_count : State → State → ℕ
handed_mutex_count S T = count (length S.protocol) (λ m. not (same_owner (owner_of S m) (owner_of T m)))
