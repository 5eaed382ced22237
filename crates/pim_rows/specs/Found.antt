-- Which waits, sections and requests the lines so far have: docs/ROWS.md, 'section' and 'nests'.
use Rattle.std.specs.Prelude.{ℕ, ◌+◌, ◌-◌, max, not, ◌&&◌, List, [], ◌∷◌, Option, Some, None}
use Rattle.std.specs.Prelude.{nat_lt, if◌then◌else◌}
use Rattle.std.specs.List.{fold}
use Rattle.std.specs.Option.{option_map_or}
use Rattle.pim_base.specs.State.{owned, mutex_numbers}
use Rattle.pim_fact_lines.specs.declared.line.Line.{Line}
use Rattle.pim_fact_lines.specs.declared.line.Line.TheVariants as lines
use Rattle.pim_fact_lines.specs.declared.line.What.{What}
use Rattle.pim_fact_lines.specs.declared.line.What.TheVariants as whats
use Rattle.pim_world.specs.Worlds.{World, owns}
use Rattle.pim_rows.specs.Moments.{Moment, now, number, clock, began}
use Rattle.pim_world.specs.Standing.{thread_number, mutex_number, waits}
use Rattle.pim_rows.specs.Tables.{Table, change}
use Rattle.pim_rows.specs.Begun.{is_owned, grant_line, off_time, Grant, grant}

-- ---- whom and what a line names

-- the place of the thread of a line, if it has one
abbrev pub actor : World → Line → Option ℕ
actor w (lines.Thread t level) = None
actor w (lines.Mutex m is_recursive protocol) = None
actor w (lines.Object x) = None
actor w lines.Unseen = None
actor w (lines.Fact time t what) = w.thread t
actor w (lines.Lost time) = None
actor w (lines.End time) = None

-- the place of the mutex that was locked or released
abbrev pub locked_mutex : World → What → Option ℕ
locked_mutex w (whats.Granted m) = w.mutex m
locked_mutex w (whats.Took m) = w.mutex m
locked_mutex w (whats.Waits m) = None
locked_mutex w (whats.GaveUp m) = None
locked_mutex w (whats.Released m) = w.mutex m
locked_mutex w (whats.Priority level) = None
locked_mutex w (whats.Ceiling m level) = None
locked_mutex w (whats.Blocks x) = None
locked_mutex w (whats.Resumes x ended) = None
locked_mutex w (whats.Runs level) = None
locked_mutex w (whats.On cpu) = None
locked_mutex w whats.OffReady = None
locked_mutex w whats.OffAsleep = None

-- the place of the mutex that t asked for: by a wait, or by a grant that it didn't wait for
abbrev pub asked_mutex : World → ℕ → What → Option ℕ
asked_mutex w t (whats.Granted m) = if waits t w then None else w.mutex m
asked_mutex w t (whats.Took m) = None
asked_mutex w t (whats.Waits m) = w.mutex m
asked_mutex w t (whats.GaveUp m) = None
asked_mutex w t (whats.Released m) = None
asked_mutex w t (whats.Priority level) = None
asked_mutex w t (whats.Ceiling m level) = None
asked_mutex w t (whats.Blocks x) = None
asked_mutex w t (whats.Resumes x ended) = None
asked_mutex w t (whats.Runs level) = None
asked_mutex w t (whats.On cpu) = None
asked_mutex w t whats.OffReady = None
asked_mutex w t whats.OffAsleep = None

-- what a line says of a thread at a place, if it is of one
abbrev pub of_fact : {A : Type 0} → A → (ℕ → What → A) → World → Line → A
of_fact none of w (lines.Thread t level) = none
of_fact none of w (lines.Mutex m is_recursive protocol) = none
of_fact none of w (lines.Object x) = none
of_fact none of w lines.Unseen = none
of_fact none of w (lines.Fact time t what) = option_map_or (λ t. of t what) (w.thread t) none
of_fact none of w (lines.Lost time) = none
of_fact none of w (lines.End time) = none

-- the place of the mutex that a line locked or released
abbrev pub mutex_of : World → Line → Option ℕ
mutex_of w line = of_fact None (λ t what. locked_mutex w what) w line

-- ---- sections

-- what a table has of the sections of a thread at a mutex at one level: how many, the longest of
-- them and the line where the first one of that length began, and the most time for which the
-- thread wasn't off a CPU
pub record Sections : Type 0 where
  pub count : ℕ
  pub longest : ℕ
  pub line : ℕ
  pub used : ℕ

-- an ownership: how long it took, and for how long of that the owner wasn't off a CPU
pub record Section : Type 0 where
  pub line : ℕ
  pub lasted : ℕ
  pub used : ℕ

abbrev pub one_section : Section → Sections
one_section s = record { count = 1; longest = s.lasted; line = s.line; used = s.used }

abbrev pub with_section : Section → Option Sections → Sections
with_section s None = one_section s
with_section s (Some all) = record {
  count = all.count + 1;
  longest = max all.longest s.lasted;
  line = if nat_lt all.longest s.lasted then s.line else all.line;
  used = max all.used s.used;
}

-- the section that began so, and lasts in these moments or ended with the newest of them
abbrev pub section : Grant → List Moment → Section
section g ms = record {
  line = g.line;
  lasted = clock ms - g.from;
  used = clock ms - g.from - (off_time g.owner ms - g.off);
}

-- the sections with the one at m that began in these moments, and lasts in the others or ended with
-- the newest of them
abbrev pub put_section : ℕ → List Moment → List Moment → Table Sections → Table Sections
put_section m start ms rows =
    let g = grant m start in
    change (g.thread, mutex_number (now ms) m, g.level) (with_section (section g ms)) rows

-- the sections with the one at m that the newest line, after the moments before, ended
abbrev pub end_section : List Moment → List Moment → Table Sections → ℕ → Table Sections
end_section ms before rows m =
    if is_owned m (now before) && not (is_owned m (now ms))
    then put_section m (began (is_owned m) before) ms rows
    else rows

-- the sections that have ended
abbrev pub sections : List Moment → Table Sections
sections [] = []
sections (m ∷ ms) =
    option_map_or (end_section (m ∷ ms) ms (sections ms)) (mutex_of (now ms) m.line) (sections ms)

-- the sections with the one at m which lasts, if m is owned
abbrev pub lasting_section : List Moment → Table Sections → ℕ → Table Sections
lasting_section ms rows m =
    if is_owned m (now ms) then put_section m (began (is_owned m) ms) ms rows else rows

-- all sections
abbrev pub all_sections : List Moment → Table Sections
all_sections ms = fold (lasting_section ms) (sections ms) (mutex_numbers (now ms).state)

-- ---- requests within sections

-- what a table has of the requests of a thread for one mutex while it owned another: how many, and
-- of the first one since which line it owned that, and its own
pub record Nests : Type 0 where
  pub count : ℕ
  pub taken : ℕ
  pub line : ℕ

abbrev pub with_nest : ℕ → ℕ → Option Nests → Nests
with_nest taken line None = record { count = 1; taken = taken; line = line }
with_nest taken line (Some all) = record all { count = all.count + 1 }

-- the requests with the one of t for m by the line after these, within its section at the outer
-- mutex
abbrev pub put_nest : List Moment → ℕ → ℕ → Table Nests → ℕ → Table Nests
put_nest ms t m rows outer =
    change
    (thread_number (now ms) t, mutex_number (now ms) outer, mutex_number (now ms) m)
    (with_nest (grant_line outer ms) (number ms + 1))
    rows

-- the requests with those of t for m by the line after these, within each of its sections
abbrev pub put_nests : List Moment → ℕ → ℕ → Table Nests → Table Nests
put_nests ms t m rows =
    if owns (now ms) t m then rows else fold (put_nest ms t m) rows (owned (now ms).state t)

-- all requests within sections
abbrev pub nests : List Moment → Table Nests
nests [] = []
nests (m ∷ ms) =
    of_fact (nests ms)
    (λ t what.
    option_map_or (λ x. put_nests ms t x (nests ms)) (asked_mutex (now ms) t what) (nests ms))
    (now ms) m.line
