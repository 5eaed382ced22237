-- The lines so far, and what held since when: docs/ROWS.md, 'After a line'.
use Rattle.std.specs.Prelude.{ℕ, ◌+◌, ◌-◌, Bool, List, [], ◌∷◌, if◌then◌else◌}
use Rattle.pim_fact_lines.specs.declared.line.Line.{Line}
use Rattle.pim_fact_lines.specs.declared.line.Line.TheVariants as lines
use Rattle.pim_world.specs.Worlds.{World, no_world}
use Rattle.pim_world.specs.After.{after}

-- a line with its number, and the world after it
pub record Moment : Type 0 where
  pub number : ℕ
  pub line : Line
  pub world : World

-- Moments are listed from the newest to the oldest. The oldest is that of line 1, after which
-- nothing is declared.
abbrev pub first_moments : List Moment
first_moments = record { number = 1; line = lines.Unseen; world = no_world } ∷ []

-- the world after the newest line
abbrev pub now : List Moment → World
now [] = no_world
now (m ∷ ms) = m.world

-- the number of the newest line
abbrev pub number : List Moment → ℕ
number [] = 0
number (m ∷ ms) = m.number

abbrev pub clock : List Moment → ℕ
clock ms = (now ms).clock

-- one line more
abbrev pub followed_by : List Moment → Line → List Moment
followed_by ms line =
    record { number = number ms + 1; line = line; world = after (now ms) line } ∷ ms

-- the time from the line before to this one
abbrev pub stretch : Moment → List Moment → ℕ
stretch m ms = m.world.clock - clock ms

-- The moments as they were when this came to hold, of what holds now: the newest is the one since
-- which it holds.
abbrev pub began : (World → Bool) → List Moment → List Moment
began holds [] = []
began holds (m ∷ ms) = if holds (now ms) then began holds ms else m ∷ ms

-- For how long this held, while that lasted which holds now or which the newest line ended: the sum
-- of the stretches of the lines after which it did.
abbrev pub time : (World → Bool) → (World → Bool) → List Moment → ℕ
time lasts holds [] = 0
time lasts holds (m ∷ ms) =
    if lasts (now ms) then time lasts holds ms + (if holds (now ms) then stretch m ms else 0) else 0
