-- Of which threads there is a row `deadlock`: docs/ROWS.md, 'deadlock'.
use Rattle.std.specs.Prelude.{◌≡◌, ◌≤◌, ℕ, true, List, [], ◌∷◌, Some, drop}
use Rattle.pim_base.specs.Lists.{contains}
use Rattle.pim_base.specs.State.{State}
use Rattle.pim_base.specs.Chains.{blocker}
use Rattle.pim_waits.specs.Waiting.{way}
use Rattle.pim_fact_lines.specs.declared.line.Line.{Line}
use Rattle.pim_world.specs.Worlds.{World}
use Rattle.pim_world.specs.Texts.{Says}
use Rattle.pim_rows.specs.Moments.{now}
use Rattle.pim_world.specs.Standing.{thread_number}
use Rattle.pim_rows.specs.Rows.{before, is_first_of_cycle, moments_of}

-- each thread waits for a mutex that the next one owns, and the last one for a mutex of the thread
-- `first`
abbrev pub LeadsBack : State → ℕ → List ℕ → Type 0
LeadsBack S first [] = ⊥
LeadsBack S first (t ∷ []) = blocker S t ≡ Some first
LeadsBack S first (t ∷ u ∷ us) = (blocker S t ≡ Some u) × LeadsBack S first (u ∷ us)

-- the threads of the row of t
abbrev pub row_threads : World → ℕ → List ℕ
row_threads w t = t ∷ before t (drop 1 (way w.state t))

-- t has the lowest number of them
pub record IsDeadlock (w : World) (t : ℕ) : Type 0 where
  pub back : LeadsBack w.state t (row_threads w t)
  pub least : (u : ℕ) → contains (row_threads w t) u ≡ true → thread_number w t ≤ thread_number w u

-- The rows are deadlocks, and each thread that is again on its own way, after itself, is in exactly
-- one of them.
pub record AreDeadlocks (w : World) : Type 0 where
  pub each : (t : ℕ) → is_first_of_cycle w t ≡ true → IsDeadlock w t
  pub all :
      (u : ℕ)
      → contains (drop 1 (way w.state u)) u ≡ true
      → (t : ℕ) × (is_first_of_cycle w t ≡ true) × (contains (row_threads w t) u ≡ true)
  pub once :
      (t s u : ℕ)
      → is_first_of_cycle w t ≡ true
      → is_first_of_cycle w s ≡ true
      → contains (row_threads w t) u ≡ true
      → contains (row_threads w s) u ≡ true
      → t ≡ s

abbrev pub DeadlockLaw : Type 0
DeadlockLaw =
    (bytes : List (List ℕ)) (lines : List Line)
    → Says bytes lines → AreDeadlocks (now (moments_of lines))
