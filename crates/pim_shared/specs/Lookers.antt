-- What a looker, which is a wait-free reader, has seen, and what it returns.
use Rattle.std.specs.Prelude.{◌≡◌, ℕ, List, [], ◌∷◌, ◌++◌, length, Option, unwrap_or}
use Rattle.std.specs.List.{All}
use mathlib.Core.List.{IsPrefix}
use Rattle.pim_base.specs.State.{State, start}
use Rattle.pim_base.specs.Priorities.{effective_priority}
use Rattle.pim_base.specs.Reasons.{reason_of}
use Rattle.pim_base.specs.Steps.{reply_of}
use Rattle.pim_base.specs.Runs.{IsRun}
use Rattle.pim_base.specs.declared.steps.Entry.{Entry}
use Rattle.pim_manager.specs.Known.{of_task}
use Rattle.pim_shared.specs.declared.looker.Seen.{Seen}
use Rattle.pim_shared.specs.declared.rule.Known.{Known}
use Rattle.pim_shared.specs.Logs.{History}
use Rattle.pim_shared.specs.Rules.{KnowsStart}
use Rattle.pim_shared.specs.Versions.{last_of}

-- the start if it is known, else any state
abbrev pub start_of : Known → State
start_of k = unwrap_or k.start (start [] [] 1)

-- the start and the entries that are known
abbrev pub history_of : Known → History
history_of k = record { start = start_of k; entries = k.seen }

-- the start is known, and this is the number of known entries
pub record IsCounted (k : Known) (steps : ℕ) : Type 0 where
  pub start : KnowsStart k
  pub counted : steps ≡ length k.seen

-- the task's effective priority and its reason in this state, after this many steps, or None if the task is unknown
abbrev pub seen_of : State → ℕ → ℕ → Option Seen
seen_of S steps t = of_task S t (record { steps = steps; prio = effective_priority S t; reason = reason_of S t })

-- the answer is the task's priority and reason in the state after the entries
abbrev pub Shows : History → ℕ → Option Seen → Type 0
Shows h t answer = (S : State) × IsRun h.start h.entries S × (answer ≡ seen_of S (length h.entries) t)

-- the entries are a run, and this is the last one
abbrev pub EndsIn : History → Option Entry → Type 0
EndsIn h last = (last ≡ last_of h.entries) × ((S : State) × IsRun h.start h.entries S)

-- the list seen before is a prefix of the list seen, which has this many entries
pub record HasSeenMore (k l : Known) (steps : ℕ) : Type 0 where
  pub start : l.start ≡ k.start
  pub more : IsPrefix k.seen l.seen
  pub counted : steps ≡ length l.seen

-- a read has seen more, and returns what the list shows of the task
abbrev pub HasLooked : ℕ → Known → Known → ℕ × Option Seen → Type 0
HasLooked t k l found = HasSeenMore k l found.0 × Shows (history_of l) t found.1

-- a read has seen more, and returns the last of the entries
abbrev pub HasFoundLast : Known → Known → ℕ × Option Entry → Type 0
HasFoundLast k l found = HasSeenMore k l found.0 × EndsIn (history_of l) found.1

-- each of the lookers has this start and has seen nothing
abbrev pub HaveSeenNothing : State → List History → Type 0
HaveSeenNothing S lookers = All (λ (h : History). h ≡ record { start = S; entries = [] }) lookers

-- The list seen now ends with this entry, and the entry's reply is the model's. The list seen before is a prefix of the
-- entries in front of it.
pub record EndsWithNew (old new : History) (entry : Entry) : Type 0 where
  pub before : List Entry
  pub state : State
  pub entries : new.entries ≡ before ++ entry ∷ []
  pub more : IsPrefix old.entries before
  pub run : IsRun new.start before state
  pub reply : entry.reply ≡ reply_of state entry.step
