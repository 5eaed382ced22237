-- What a change leaves as it is.
use Rattle.std.specs.Prelude.{◌≡◌, ◌++◌, ℕ, List, true, false, Some}
use Rattle.pim_base.specs.Lists.{contains}
use Rattle.pim_base.specs.State.{State, IsTask, base_of, wait_of}
use Rattle.pim_base.specs.Chains.{blocker}
use Rattle.pim_waits.specs.Waiting.{gets, way, runner, blame}

-- the thread gets the same, and has the same level and blocker, and if it is blocked, the same wait
pub record IsKept (S T : State) (t : ℕ) : Type 0 where
  pub gets : gets T t ≡ gets S t
  pub base : base_of T t ≡ base_of S t
  pub wait : (u : ℕ) → blocker S t ≡ Some u → wait_of T t ≡ wait_of S t
  pub blocker : blocker T t ≡ blocker S t

-- the way of the thread is the same, and so is each thread on it; so its runner and the mutex to
-- blame are the same
pub record IsUntouched (S T : State) (t : ℕ) : Type 0 where
  pub each : (u : ℕ) → contains (way S t) u ≡ true → IsKept S T u
  pub runner : runner T t ≡ runner S t
  pub blame : blame T t ≡ blame S t
  pub way : way T t ≡ way S t

-- threads were appended to the list, and each known thread that isn't one of these is untouched
pub record Touches (S T : State) (before after : List ℕ) : Type 0 where
  pub touched : List ℕ
  pub appended : after ≡ before ++ touched
  pub others : (t : ℕ) → IsTask S t → contains touched t ≡ false → IsUntouched S T t
