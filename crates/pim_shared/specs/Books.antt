-- What is kept behind the lock, and what a call does to it.
use Rattle.std.specs.Prelude.{◌≡◌, ◌≤◌, ◌<◌, ◌⊎◌, ℕ, List, [], ◌∷◌, ◌++◌, length, Bool, true, false, Option, Some, None, Result, Ok, Err, MatchResult, if◌then◌else◌}
use Rattle.pim_base.specs.Lists.{holds}
use Rattle.pim_base.specs.State.{State, owner_of}
use Rattle.pim_base.specs.Checks.{is_waiting}
use Rattle.pim_base.specs.Steps.{reply_of, after}
use Rattle.pim_base.specs.Runs.{IsRun}
use Rattle.pim_base.specs.declared.steps.Step.{Step}
use Rattle.pim_base.specs.declared.steps.Entry.{Entry}
use Rattle.pim_base.specs.declared.steps.Reply.{Reply}
use Rattle.pim_manager.specs.declared.shared_fault.SharedFault.{SharedFault}
use Rattle.pim_manager.specs.declared.shared_fault.SharedFault.TheVariants.{Full, Memory, Closed, Torn, NoPlace}
use Rattle.pim_shared.specs.declared.gate.Settled.{Settled}
use Rattle.pim_shared.specs.Publishers.{Published}

-- the state at the start and now, the entries between, the room for them, and whether all further calls are refused
pub record BookState : Type 0 where
  pub start : State
  pub manager : State
  pub entries : List Entry
  pub room : ℕ
  pub closed : Bool

-- a book of these
abbrev pub book_of : State → State → List Entry → ℕ → Bool → BookState
book_of start manager entries room closed = record {
  start = start;
  manager = manager;
  entries = entries;
  room = room;
  closed = closed;
}

-- the entries are a run from the start to the state now, there are at most `room` of them, and they are the published list
pub record IsBook (b : BookState) (capacity : ℕ) (p : Published) : Type 0 where
  pub run : IsRun b.start b.entries b.manager
  pub within_room : length b.entries ≤ b.room
  pub reserved : b.room ≤ capacity
  pub published : p ≡ record { start = b.start; entries = b.entries; state = b.manager; pending = [] }

-- Closed is for a closed book; Full for an open one that has no room left, and Memory for one that has
abbrev pub IsFaultOf : BookState → SharedFault → Type 0
IsFaultOf b Closed = b.closed ≡ true
IsFaultOf b Full = (b.closed ≡ false) × (length b.entries ≡ b.room)
IsFaultOf b Memory = (b.closed ≡ false) × (length b.entries < b.room)
IsFaultOf b Torn = ⊥
IsFaultOf b NoPlace = ⊥

-- one of the faults of a call
abbrev pub IsCallFault : SharedFault → Type 0
IsCallFault Closed = Unit {0}
IsCallFault Full = Unit {0}
IsCallFault Memory = Unit {0}
IsCallFault Torn = ⊥
IsCallFault NoPlace = ⊥

-- the step and its reply are one entry more
abbrev pub with_entry : BookState → Step → Reply → BookState
with_entry b step reply = record b {
  manager = after b.manager step;
  entries = b.entries ++ record { step = step; reply = reply } ∷ [];
}

-- An open book that has room makes the step, replies as the model does and logs it. At a fault nothing is changed, but the
-- book is closed.
abbrev pub IsCall : BookState → Step → Result Reply SharedFault → BookState → Type 0
IsCall b step result c =
    MatchResult result
    (λ reply. (b.closed ≡ false) × (length b.entries < b.room) × (reply ≡ reply_of b.manager step) × (c ≡ with_entry b step reply))
    (λ fault. IsFaultOf b fault × (c ≡ record b { closed = true }))

-- a call that a looker learns of: NoPlace is answered of a step that was made, too, where the looker doesn't find its entry
abbrev pub IsCallWith : BookState → Step → Result Reply SharedFault → BookState → Type 0
IsCallWith b step result c = IsCall b step result c ⊎ ((result ≡ Err NoPlace) × ((reply : Reply) × IsCall b step (Ok reply) c))

-- nothing of a task that waits, else whether it owns the mutex
abbrev pub settled_of : State → ℕ → ℕ → Option Settled
settled_of S t m =
    if is_waiting S t then None
    else Some (if holds (owner_of S m) t then Settled.Owns else Settled.Withdrawn)
