-- What the times of a wait have to do with one another.
use Rattle.std.specs.Prelude.{◌≡◌, ◌≤◌, ◌-◌, ℕ, Bool, List, [], ◌∷◌, is_some}
use Rattle.std.specs.Option.{option_and_then}
use Rattle.pim_fact_lines.specs.declared.line.Line.{Line}
use Rattle.pim_waits.specs.Waiting.{runner}
use Rattle.pim_world.specs.Worlds.{World, blocked_at}
use Rattle.pim_rows.specs.Moments.{Moment, clock, began, time}
use Rattle.pim_world.specs.Standing.{waits, is_lower, inverted_by, meanwhile_of}
use Rattle.pim_rows.specs.Tables.{total}
use Rattle.pim_rows.specs.Tallies.{Tally, tally}
use Rattle.pim_rows.specs.Rows.{moments_of}

-- t is inverted
abbrev pub is_inverted : ℕ → World → Bool
is_inverted t w = is_some (inverted_by w t)

-- the runner of t is blocked at an object
abbrev pub is_stalled : ℕ → World → Bool
is_stalled t w = is_some (option_and_then (blocked_at w) (runner w.state t))

-- a thread runs in place of the runner of t, which is inverted
abbrev pub has_meanwhile : ℕ → World → Bool
has_meanwhile t w = is_some (option_and_then (meanwhile_of w t) (inverted_by w t))

-- for how long this held during the wait of t that lasts, or that the newest line ended
abbrev pub waiting_time : ℕ → (World → Bool) → List Moment → ℕ
waiting_time t holds ms = time (waits t) holds ms

-- Each time of a tally is the sum of the stretches in which that held, and the rows of a table add
-- up to one.
pub record AddsUp (t : ℕ) (ms : List Moment) : Type 0 where
  pub lower : (tally t ms).lower ≡ waiting_time t (λ w. is_lower w t) ms
  pub inverted : total (tally t ms).inverted ≡ waiting_time t (is_inverted t) ms
  pub stalled : total (tally t ms).stalled ≡ waiting_time t (is_stalled t) ms
  pub meanwhile : total (tally t ms).meanwhile ≡ waiting_time t (has_meanwhile t) ms

abbrev pub SumsLaw : Type 0
SumsLaw = (t : ℕ) (ms : List Moment) → AddsUp t ms

-- the clock never goes back
abbrev pub IsInOrder : List Moment → Type 0
IsInOrder [] = Unit {0}
IsInOrder (m ∷ ms) = (clock ms ≤ m.world.clock) × IsInOrder ms

abbrev pub OrderLaw : Type 0
OrderLaw = (ls : List Line) → IsInOrder (moments_of ls)

-- A wait is inverted for no longer than its runner has a lower level, and the runner isn't blocked
-- then. Another thread runs in place of the runner for no longer than the wait is inverted.
pub record IsBounded (lasted : ℕ) (times : Tally) : Type 0 where
  pub meanwhile : total times.meanwhile ≤ total times.inverted
  pub inverted : total times.inverted ≤ times.lower
  pub lower : times.lower ≤ lasted - total times.stalled
  pub stalled : total times.stalled ≤ lasted

-- This holds of each wait that lasts, or that the newest line ended, and of the time since it
-- began.
abbrev pub BoundsLaw : Type 0
BoundsLaw =
    (t : ℕ) (ms : List Moment)
    → IsInOrder ms
    → IsBounded (clock ms - clock (began (waits t) ms)) (tally t ms)
