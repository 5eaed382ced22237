-- What holds at the start and after each step.
use Rattle.std.specs.Prelude.{◌≡◌, ◌<◌, ◌≤◌, ℕ, Option, Some, None, IsSome, if◌then◌else◌}
use Rattle.pim_base.specs.State.{State, IsState, owner_of, wait_of, protocol_of, count_of, is_recursive}
use Rattle.pim_base.specs.Chains.{HasCycle}
use Rattle.pim_base.specs.declared.limits.TheConstants.{MAX_COUNT}
use Rattle.pim_base.specs.declared.steps.Protocol.{Protocol}
use Rattle.pim_base.specs.declared.steps.Wait.{Wait}

-- no wait leads back to its task, and the lists fit together
pub record IsSound (S : State) : Type 0 where
  pub lists : IsState S
  pub no_cycle : ¬ HasCycle S

-- each waiting task has a ticket of its own, below the next one
pub record HasOwnTickets (S : State) : Type 0 where
  pub given : (t : ℕ) (w : Wait) → wait_of S t ≡ Some w → w.ticket < S.next
  pub own : (t u : ℕ) (v w : Wait) → wait_of S t ≡ Some v → wait_of S u ≡ Some w → v.ticket ≡ w.ticket → t ≡ u

-- no free mutex has waiters
abbrev pub WaitsAreForOwned : State → Type 0
WaitsAreForOwned S = (t : ℕ) (w : Wait) → wait_of S t ≡ Some w → IsSome (owner_of S w.mutex)

-- the count of a mutex: 0 if it is free, 1 if it is owned, and 1 to the greatest count if it is owned and recursive
abbrev pub IsCountOf : Protocol → Option ℕ → ℕ → Type 0
IsCountOf protocol None k = k ≡ 0
IsCountOf protocol (Some t) k = (1 ≤ k) × (k ≤ (if is_recursive protocol then MAX_COUNT else 1))

-- the count of each mutex is one of these
abbrev pub HasCounts : State → Type 0
HasCounts S = (m : ℕ) → IsCountOf (protocol_of S m) (owner_of S m) (count_of S m)

-- all of the above
pub record IsSteady (S : State) : Type 0 where
  pub sound : IsSound S
  pub tickets : HasOwnTickets S
  pub owned : WaitsAreForOwned S
  pub counts : HasCounts S
