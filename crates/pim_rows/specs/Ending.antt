-- The rows of the wait and of the block that a line ends.
use Rattle.std.specs.Prelude.{◌≡◌, ℕ, true, not, ◌&&◌, nat_lt, count_by, List, [], ◌++◌, Option}
use Rattle.std.specs.Prelude.{Some, None, if◌then◌else◌}
use Rattle.pim_fact_lines.specs.declared.line.Line.{Line}
use Rattle.pim_world.specs.After.{after}
use Rattle.pim_rows.specs.Moments.{Moment, now, followed_by}
use Rattle.pim_world.specs.Standing.{waits}
use Rattle.pim_rows.specs.Tallies.{Tally, tally}
use Rattle.pim_rows.specs.Found.{of_fact}
use Rattle.pim_rows.specs.Rows.{granted, resumed, text_of, wait_with, Row}
use Rattle.pim_rows.specs.declared.ended_rows.EndedWaits.{EndedWaits}

-- These rows were appended. n of them are of waits, and k of those were inverted.
pub record Puts (rows : List Row) (old new : List ℕ) (n k : ℕ) : Type 0 where
  pub text : new ≡ old ++ text_of rows
  pub waits : n ≡ count_by (wait_with (λ n. true)) rows
  pub inverted : k ≡ count_by (wait_with (λ n. nat_lt 0 n)) rows

-- the tally of the wait of t if the line after these moments ends it
abbrev pub ended_tally : ℕ → List Moment → Line → Option Tally
ended_tally t ms l =
    if waits t (now ms) && not (waits t (after (now ms) l))
    then Some (tally t (followed_by ms l)) else None

-- these are the times of the wait that the line after these moments ends, if it has a thread
abbrev pub HasEnded : Option Tally → Option ℕ → List Moment → Line → Type 0
HasEnded times thread ms l = (t : ℕ) → thread ≡ Some t → times ≡ ended_tally t ms l

-- the rows of the wait and of the block that the line after these moments ends
abbrev pub ended_of : List Moment → Line → List Row
ended_of ms l =
    of_fact [] (λ t what. granted (followed_by ms l) ms t ++ resumed (followed_by ms l) ms t what)
    (now ms) l

-- so many of the rows are `wait` rows, and so many of these have time inverted
pub record AreCounts (counts : EndedWaits) (rows : List Row) : Type 0 where
  pub waits : counts.waits ≡ count_by (wait_with (λ n. true)) rows
  pub inverted : counts.inverted ≡ count_by (wait_with (λ n. nat_lt 0 n)) rows

-- the rows were appended, and counted
pub record ArePut (rows : List Row) (before now : List ℕ) (counts : EndedWaits) : Type 0 where
  pub text : now ≡ before ++ text_of rows
  pub counted : AreCounts counts rows
