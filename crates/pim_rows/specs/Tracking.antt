-- What a tracker knows of the lines so far.
use Rattle.std.specs.Prelude.{◌≡◌, ℕ, List, [], Some, Option}
use Rattle.pim_fact_lines.specs.declared.line.Line.{Line}
use Rattle.pim_world.specs.Texts.{line_after}
use Rattle.pim_world.specs.Held.{world_of}
use Rattle.pim_rows.specs.declared.tracker.Tracker.{Tracker}
use Rattle.pim_rows.specs.Moments.{Moment, now, number, followed_by}
use Rattle.pim_world.specs.Standing.{waits, is_off}
use Rattle.pim_rows.specs.Begun.{is_blocked, is_owned, wait_start, block, grant}
use Rattle.pim_rows.specs.Found.{sections, nests}
use Rattle.pim_rows.specs.Rows.{ended_rows}
use Rattle.pim_rows.specs.Kept.{kept_of, AreStarts}
use Rattle.pim_rows.specs.AllOpen.{AreOpen}
use Rattle.pim_rows.specs.OffTimes.{AreOffTimes}
use Rattle.pim_rows.specs.Runs.{AreRuns, IsEven}
use Rattle.pim_rows.specs.Levels.{AreLevels}
use Rattle.pim_rows.specs.Affected.{AreWaits}
use Rattle.pim_rows.specs.Ending.{Puts}
use Rattle.pim_world.specs.Worlds.{World}
use Rattle.pim_rows.specs.declared.before.Before.{Before}

-- it has followed these lines: what it keeps is of what lasts, and it has written the rows of what
-- ended
pub record Tracks (t : Tracker) (ms : List Moment) : Type 0 where
  pub world : world_of t.world ≡ now ms
  pub even : IsEven (now ms)
  pub waiting : AreWaits (now ms)
  pub number : t.number ≡ number ms
  pub starts : AreStarts waits wait_start (kept_of t.starts.starts) ms
  pub opens : AreOpen t.opens.opens.items ms
  pub blocks : AreStarts is_blocked block (kept_of t.blocks.starts) ms
  pub grants : AreStarts is_owned grant (kept_of t.grants.starts) ms
  pub off_times : AreOffTimes (kept_of t.off_times.starts) ms
  pub levels : AreLevels (kept_of t.levels.apart) (now ms)
  pub runs : AreRuns (kept_of t.runs.starts) ms
  pub sections : t.sections ≡ sections ms
  pub nests : t.nests ≡ nests ms
  pub written : Puts (ended_rows ms) [] t.out.items t.waits t.inverted

-- the bytes spell a line that may follow these, and it has followed that one, too
abbrev pub HasTaken : Tracker → List Moment → List ℕ → Type 0
HasTaken t ms bytes =
    (line : Line) × (line_after (now ms) bytes ≡ Some line) × Tracks t (followed_by ms line)

-- this held of a thread and a mutex
pub record IsBefore (b : Before) (w : World) (thread mutex : Option ℕ) : Type 0 where
  pub waits : (t : ℕ) → thread ≡ Some t → b.waits ≡ waits t w
  pub blocked : (t : ℕ) → thread ≡ Some t → b.blocked ≡ is_blocked t w
  pub off : (t : ℕ) → thread ≡ Some t → b.off ≡ is_off t w
  pub owned : (m : ℕ) → mutex ≡ Some m → b.owned ≡ is_owned m w
