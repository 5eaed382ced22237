-- For how long what held of a waiting thread: docs/ROWS.md, 'wait', 'inverted', 'stalled' and
-- 'meanwhile'.
use Rattle.std.specs.Prelude.{ℕ, ◌+◌, ◌≤◌, List, [], ◌∷◌, if◌then◌else◌}
use Rattle.pim_rows.specs.Moments.{Moment, now, stretch}
use Rattle.pim_world.specs.declared.standing.Standing.{Standing}
use Rattle.pim_world.specs.Standing.{standing, waits}
use Rattle.pim_rows.specs.Tables.{add}
pub use Rattle.pim_rows.specs.Tables.{total}
pub use Rattle.pim_rows.specs.declared.tally.Tally.{Tally}

-- nothing held
abbrev pub no_tally : Tally
no_tally = record { lower = 0; inverted = []; stalled = []; meanwhile = [] }

-- this held for so long
abbrev pub with_time : Standing → ℕ → Tally → Tally
with_time s time tally = record {
  lower = tally.lower + (if s.lower then time else 0);
  inverted = add s.inverted time tally.inverted;
  stalled = add s.stalled time tally.stalled;
  meanwhile = add s.meanwhile time tally.meanwhile;
}

-- of the wait of t that lasts, or that the newest line ended
abbrev pub tally : ℕ → List Moment → Tally
tally t [] = no_tally
tally t (m ∷ ms) =
    if waits t (now ms)
    then with_time (standing (now ms) t) (stretch m ms) (tally t ms) else no_tally

-- no time of the tally is above this one
pub record IsWithin (time : ℕ) (tally : Tally) : Type 0 where
  pub lower : tally.lower ≤ time
  pub inverted : total tally.inverted ≤ time
  pub stalled : total tally.stalled ≤ time
  pub meanwhile : total tally.meanwhile ≤ time
