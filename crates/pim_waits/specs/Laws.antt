-- What the definitions of waits have to do with one another: docs/ROWS.md, 'Laws'.
use Rattle.std.specs.Prelude.{◌≡◌, ◌≢◌, ◌≤◌, ◌<◌, ◌↔◌, ℕ, true, Some, None}
use Rattle.pim_base.specs.Lists.{contains}
use Rattle.pim_base.specs.State.{State, base_of, protocol_of, owner_of, wait_of}
use Rattle.pim_base.specs.Chains.{blocker}
use Rattle.pim_base.specs.declared.steps.Protocol.{Protocol}
use Rattle.pim_waits.specs.Awaited.{awaited_of}
use Rattle.pim_waits.specs.Waiting.{gets, way, runner, blame}
use Rattle.pim_waits.specs.Whole.{IsWhole}

-- ---- the thread that has to run

-- it is on the way of t, another thread than t, and awaits no mutex that is owned
pub record IsRunner (S : State) (t u : ℕ) : Type 0 where
  pub on_way : contains (way S t) u ≡ true
  pub other : u ≢ t
  pub free : blocker S u ≡ None

abbrev pub RunnerLaw : Type 0
RunnerLaw = (S : State) (t u : ℕ) → runner S t ≡ Some u → IsRunner S t u

-- t has a runner, which gets less than t gets
abbrev pub HasLowRunner : State → ℕ → Type 0
HasLowRunner S t = (u : ℕ) × (runner S t ≡ Some u) × (gets S u < gets S t)

-- ---- the mutex to blame

-- a mutex of this protocol doesn't pass this level on: it is NONE, or PROTECT with a ceiling below
-- the level
abbrev pub FallsShort : ℕ → Protocol → Type 0
FallsShort level Protocol.None = Unit {0}
FallsShort level Protocol.Inherit = ⊥
FallsShort level Protocol.InheritRecursive = ⊥
FallsShort level (Protocol.Protect c) = c < level

-- Its owner gets less than t gets, and less than the thread on the way of t that awaits it. It
-- passes no more on.
pub record IsToBlame (S : State) (t m : ℕ) : Type 0 where
  pub waiter : ℕ
  pub owner : ℕ
  pub on_way : contains (way S t) waiter ≡ true
  pub awaits : awaited_of S waiter ≡ Some m
  pub owns : owner_of S m ≡ Some owner
  pub below : gets S owner < gets S t
  pub less : gets S owner < gets S waiter
  pub protocol : FallsShort (gets S t) (protocol_of S m)

abbrev pub BlameLaw : Type 0
BlameLaw = (S : State) (t m : ℕ) → IsWhole S → blame S t ≡ Some m → IsToBlame S t m

-- There is a mutex to blame if the runner gets less than t gets.
abbrev pub BlameExistsLaw : Type 0
BlameExistsLaw = (S : State) (t : ℕ) → HasLowRunner S t → (m : ℕ) × (blame S t ≡ Some m)

-- ---- ways that pass on what t gets

-- a mutex of this protocol passes this level on: it is INHERIT, or PROTECT with a ceiling of at
-- least the level
abbrev pub PassesOn : ℕ → Protocol → Type 0
PassesOn level Protocol.None = ⊥
PassesOn level Protocol.Inherit = Unit {0}
PassesOn level Protocol.InheritRecursive = Unit {0}
PassesOn level (Protocol.Protect c) = level ≤ c

-- each owned mutex that a thread on the way of t awaits passes on what t gets
abbrev pub WayPassesOn : State → ℕ → Type 0
WayPassesOn S t =
    (u m v : ℕ)
    → contains (way S t) u ≡ true
    → awaited_of S u ≡ Some m
    → owner_of S m ≡ Some v
    → PassesOn (gets S t) (protocol_of S m)

-- Then the runner gets no less than t gets.
abbrev pub PassingLaw : Type 0
PassingLaw =
    (S : State) (t u : ℕ) → IsWhole S → WayPassesOn S t → runner S t ≡ Some u → gets S t ≤ gets S u

-- ---- an owner that waits for nothing

-- u owns the NONE mutex m and no other one, and awaits nothing
pub record IsIdleOwner (S : State) (m u : ℕ) : Type 0 where
  pub none : protocol_of S m ≡ Protocol.None
  pub owner : owner_of S m ≡ Some u
  pub only : (k : ℕ) → owner_of S k ≡ Some u → k ≡ m
  pub idle : wait_of S u ≡ None

-- what is known of a thread t that awaits m
pub record WaitsForIdle (S : State) (t u : ℕ) : Type 0 where
  pub runs : runner S t ≡ Some u
  pub level : gets S u ≡ base_of S u
  pub inverted : HasLowRunner S t ↔ (base_of S u < gets S t)

-- Such an owner gets its level. It is the runner of each thread that awaits m, which is inverted if
-- and only if that level is below what the thread gets.
abbrev pub IdleOwnerLaw : Type 0
IdleOwnerLaw =
    (S : State) (t m u : ℕ)
    → IsWhole S
    → IsIdleOwner S m u
    → awaited_of S t ≡ Some m
    → WaitsForIdle S t u
