-- The work of walks: how many visits they made, and which stored priorities they wrote.
use Rattle.std.specs.Prelude.{◌≡◌, ◌≢◌, ◌≤◌, ◌+◌, ◌==◌, ℕ, List, [], Option, Some, None, IsSome, is_some, unwrap_or, if◌then◌else◌}
use Rattle.std.specs.Option.{option_and_then, option_map_or}
use Rattle.pim_base.specs.Counts.{differing}
use Rattle.pim_base.specs.Lists.{nth}
use Rattle.pim_sets.specs.Numbers.{has, members}

-- the tasks that are noted, a bit for each, and the priority that each of them had
pub record Noted : Type 0 where
  pub tasks : List ℕ
  pub had : List ℕ

-- how many visits were made and, if notes are kept, what was noted
pub record Work : Type 0 where
  pub count : ℕ
  pub notes : Option Noted

-- the priority of the task, where each has its own in its place
abbrev pub prio_in : List ℕ → ℕ → ℕ
prio_in prios t = unwrap_or (nth prios t) 0

-- what is noted of the task
abbrev pub noted_in : Noted → ℕ → Option ℕ
noted_in n t = if has n.tasks t then Some (prio_in n.had t) else None

-- what is noted of the task, if notes are kept
abbrev pub noted_of : Work → ℕ → Option ℕ
noted_of w t = option_and_then (λ (n : Noted). noted_in n t) w.notes

-- the stored priority that the task had when the notes began: the noted one, or else the present one
abbrev pub original : (ℕ → ℕ) → Work → ℕ → ℕ
original stored w t = unwrap_or (noted_of w t) (stored t)

-- the noted tasks, in ascending order
abbrev pub noted_tasks : Work → List ℕ
noted_tasks w = option_map_or (λ (n : Noted). members n.tasks) w.notes []

-- the note of a task that had this priority at first and has that one now: none if they are the same
abbrev pub note_of : ℕ → ℕ → Option ℕ
note_of had prio = if had == prio then None else Some had

-- a task that had the priority p has q now: its note gives what it had at first, and nothing else is noted
pub record IsNoted (a : Work) (t p q : ℕ) (b : Work) : Type 0 where
  pub count : b.count ≡ a.count
  pub keeps : is_some b.notes ≡ is_some a.notes
  pub first : IsSome a.notes → noted_of b t ≡ note_of (unwrap_or (noted_of a t) p) q
  pub others : (u : ℕ) → u ≢ t → noted_of b u ≡ noted_of a u

-- each noted task is one of the first n, and its stored priority isn't the noted one
abbrev pub AreChanged : ℕ → (ℕ → ℕ) → Work → Type 0
AreChanged n stored w = (t p : ℕ) → noted_of w t ≡ Some p → (1 ≤ t) × (t ≤ n) × (p ≢ stored t)

-- notes are kept if they were kept before, they give the same original priorities of the first n tasks after these
-- went from f to g, and the noted tasks are still changed ones
abbrev pub KeepsTelling : ℕ → (ℕ → ℕ) → Work → (ℕ → ℕ) → Work → Type 0
KeepsTelling n f a g b =
    (is_some b.notes ≡ is_some a.notes)
    × (IsSome a.notes → (t : ℕ) → 1 ≤ t → t ≤ n → original g b t ≡ original f a t)
    × (AreChanged n f a → AreChanged n g b)

-- What the work records of a change of the first n tasks' priorities from f to g: it counted a visit for each that
-- differs, or more. If notes are kept, they still give each task's original priority.
pub record Tells (n : ℕ) (f : ℕ → ℕ) (a : Work) (g : ℕ → ℕ) (b : Work) : Type 0 where
  pub counted : a.count + differing n f g ≤ b.count
  pub noted : KeepsTelling n f a g b

-- one visit was counted and, if notes are kept, they still give each known task's original priority
pub record VisitedOnce (n : ℕ) (f : ℕ → ℕ) (a : Work) (g : ℕ → ℕ) (b : Work) : Type 0 where
  pub counted : b.count ≡ a.count + 1
  pub noted : KeepsTelling n f a g b
