-- States that differ in a component alone.
use Rattle.std.specs.Prelude.{◌≡◌, ℕ, Bool, false, length, Some}
use Rattle.pim_base.specs.State.{State, base_of, wait_of}
use Rattle.pim_base.specs.Chains.{blocker, heir}
use Rattle.pim_base.specs.Priorities.{own_priority}

-- the thread has the same level, own priority, blocker and heir, and if it is blocked, the same
-- wait
pub record IsSame (S T : State) (t : ℕ) : Type 0 where
  pub base : base_of T t ≡ base_of S t
  pub own : own_priority T t ≡ own_priority S t
  pub wait : (u : ℕ) → blocker S t ≡ Some u → wait_of T t ≡ wait_of S t
  pub blocker : blocker T t ≡ blocker S t
  pub heir : heir T t ≡ heir S t

-- the threads outside are the same, and none of them blocks one inside, or is blocked by it
pub record Around (S T : State) (inside : ℕ → Bool) : Type 0 where
  pub tasks : length T.base ≡ length S.base
  pub same : (t : ℕ) → inside t ≡ false → IsSame S T t
  pub closed : (t u : ℕ) → blocker S t ≡ Some u → inside t ≡ inside u
  pub closed_after : (t u : ℕ) → blocker T t ≡ Some u → inside t ≡ inside u
