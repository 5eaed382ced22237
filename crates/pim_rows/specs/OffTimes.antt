-- For how long each thread has been off a CPU: docs/ROWS.md, 'section'.
use Rattle.std.specs.Prelude.{◌≡◌, ◌≤◌, ℕ, ◌+◌, ◌-◌, min, Bool, true, false, List, Option, Some}
use Rattle.std.specs.Prelude.{None, unwrap_or, if◌then◌else◌}
use Rattle.pim_fact_lines.specs.declared.line.Line.{Line}
use Rattle.pim_fact_lines.specs.declared.line.Line.TheVariants as lines
use Rattle.pim_rows.specs.Moments.{Moment, now, clock}
use Rattle.pim_world.specs.Standing.{is_off}
use Rattle.pim_rows.specs.Begun.{off_time}
use Rattle.pim_rows.specs.declared.off_time.OffTime.{OffTime}

-- the thread was never off
abbrev pub no_off_time : OffTime
no_off_time = record { before = 0; since = 0 }

-- what is kept of t
abbrev pub off_kept : (ℕ → Option OffTime) → ℕ → OffTime
off_kept kept t = unwrap_or (kept t) no_off_time

-- for how long a thread has been off at this clock, which is off still
abbrev pub off_until : OffTime → ℕ → ℕ
off_until o clock = min (o.before + (clock - o.since)) 18446744073709551615

-- the thread is off from this clock on
abbrev pub off_from : OffTime → ℕ → OffTime
off_from o clock = record { before = o.before; since = clock }

-- the thread was off until this clock
abbrev pub off_ended : OffTime → ℕ → OffTime
off_ended o clock = record { before = off_until o clock; since = o.since }

-- At this clock the thread was off for that time, and is off or isn't. No sum of times is more than
-- the clock.
pub record IsOffTime (o : OffTime) (off : Bool) (time clock : ℕ) : Type 0 where
  pub sum : time ≡ o.before + (if off then clock - o.since else 0)
  pub earlier : off ≡ true → o.since ≤ clock
  pub within : time ≤ clock

-- of each thread it is kept for how long it has been off
abbrev pub AreOffTimes : (ℕ → Option OffTime) → List Moment → Type 0
AreOffTimes kept ms =
    (t : ℕ) → IsOffTime (off_kept kept t) (is_off t (now ms)) (off_time t ms) (clock ms)

-- from this line on nothing is known of what the kernel did so far
abbrev pub is_lost : Line → Bool
is_lost (lines.Thread t level) = false
is_lost (lines.Mutex m is_recursive protocol) = false
is_lost (lines.Object x) = false
is_lost lines.Unseen = false
is_lost (lines.Fact time t what) = false
is_lost (lines.Lost time) = true
is_lost (lines.End time) = false

-- the time of a line after which nothing is known of what the kernel did so far
abbrev pub lost_time : Line → Option ℕ
lost_time (lines.Thread t level) = None
lost_time (lines.Mutex m is_recursive protocol) = None
lost_time (lines.Object x) = None
lost_time lines.Unseen = None
lost_time (lines.Fact time t what) = None
lost_time (lines.Lost time) = Some time
lost_time (lines.End time) = None
