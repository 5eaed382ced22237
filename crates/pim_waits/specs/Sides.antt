-- The threads that a change of an owner or of a wait is about.
use Rattle.std.specs.Prelude.{◌≡◌, ℕ, true, List, Option, Some, None}
use Rattle.std.specs.Option.{option_and_then}
use Rattle.pim_base.specs.Lists.{contains}
use Rattle.pim_base.specs.State.{State, owner_of}
use Rattle.pim_base.specs.Chains.{blocker}
use Rattle.pim_base.specs.Priorities.{ceiling_of}
use Rattle.pim_waits.specs.Awaited.{awaited_of}

-- the mutex gives its owner nothing: it has no ceiling, and no thread waits for it
pub record IsIdle (S : State) (m : ℕ) : Type 0 where
  pub ceiling : ceiling_of S m ≡ 0
  pub unawaited : (t : ℕ) → awaited_of S t ≡ Some m → ⊥

-- these have the threads that wait for the mutex, its owner and its new owner
pub record HasSides (S : State) (m : ℕ) (new : Option ℕ) (threads : List ℕ) : Type 0 where
  pub waiting : (t : ℕ) → awaited_of S t ≡ Some m → contains threads t ≡ true
  pub before : (t : ℕ) → owner_of S m ≡ Some t → contains threads t ≡ true
  pub after : (t : ℕ) → new ≡ Some t → contains threads t ≡ true

-- neither the mutex that the thread awaits nor the one that it will await has an owner
pub record IsFree (S : State) (t : ℕ) (new : Option ℕ) : Type 0 where
  pub before : blocker S t ≡ None
  pub after : option_and_then (owner_of S) new ≡ None

-- these have the thread, and the owner of the mutex that it will await
pub record HasEnds (S : State) (t : ℕ) (new : Option ℕ) (threads : List ℕ) : Type 0 where
  pub thread : contains threads t ≡ true
  pub after : (u : ℕ) → option_and_then (owner_of S) new ≡ Some u → contains threads u ≡ true
