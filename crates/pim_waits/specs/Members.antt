-- The threads that have been gathered, and the threads that wait for each other.
use Rattle.std.specs.Prelude.{◌≡◌, ◌++◌, ℕ, Bool, true, false, List, Some, unwrap_or}
use Rattle.pim_base.specs.Lists.{nth, contains}
use Rattle.pim_base.specs.State.{State}
use Rattle.pim_base.specs.Chains.{blocker}

-- some threads of so many
pub record Members : Type 0 where
  pub threads : List ℕ
  pub room : ℕ

-- whether the thread is marked
abbrev pub is_marked : List Bool → ℕ → Bool
is_marked marks t = unwrap_or (nth marks t) false

-- no thread less, in the same order, of as many
pub record Extends (old new : Members) : Type 0 where
  pub room : new.room ≡ old.room
  pub more : List ℕ
  pub front : new.threads ≡ old.threads ++ more

-- the threads that the thread blocks are among these, and the one that blocks it
pub record HasNeighbours (S : State) (threads : List ℕ) (t : ℕ) : Type 0 where
  pub ahead : (u : ℕ) → blocker S t ≡ Some u → contains threads u ≡ true
  pub behind : (u : ℕ) → blocker S u ≡ Some t → contains threads u ≡ true

-- with a thread these have the one that blocks it, and with that one the thread
abbrev pub IsClosed : State → List ℕ → Type 0
IsClosed S threads = (t u : ℕ) → blocker S t ≡ Some u → contains threads t ≡ contains threads u
