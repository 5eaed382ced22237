-- Which waits have a row: docs/ROWS.md, 'wait'.
use Rattle.std.specs.Prelude.{◌≡◌, ℕ, ◌==◌, Bool, false, ◌&&◌, List, count_by, slice_get}
use Rattle.pim_base.specs.Lists.{holds}
use Rattle.pim_fact_lines.specs.declared.line.Line.{Line}
use Rattle.pim_fact_lines.specs.declared.line.Line.TheVariants as lines
use Rattle.pim_fact_lines.specs.declared.line.What.{What}
use Rattle.pim_fact_lines.specs.declared.line.What.TheVariants as whats
use Rattle.pim_world.specs.Texts.{Says}
use Rattle.pim_rows.specs.Moments.{Moment}
use Rattle.pim_rows.specs.Rows.{Row, is_wait, rows_of, moments_of}

-- it says that a thread waits for the mutex m
abbrev pub is_for : ℕ → What → Bool
is_for m (whats.Granted k) = false
is_for m (whats.Took k) = false
is_for m (whats.Waits k) = k == m
is_for m (whats.GaveUp k) = false
is_for m (whats.Released k) = false
is_for m (whats.Priority level) = false
is_for m (whats.Ceiling k level) = false
is_for m (whats.Blocks x) = false
is_for m (whats.Resumes x ended) = false
is_for m (whats.Runs level) = false
is_for m (whats.On cpu) = false
is_for m whats.OffReady = false
is_for m whats.OffAsleep = false

-- the line says that t waits for m
abbrev pub says_waits : ℕ → ℕ → Line → Bool
says_waits t m (lines.Thread u level) = false
says_waits t m (lines.Mutex k is_recursive protocol) = false
says_waits t m (lines.Object x) = false
says_waits t m lines.Unseen = false
says_waits t m (lines.Fact time u what) = is_for m what && (u == t)
says_waits t m (lines.Lost time) = false
says_waits t m (lines.End time) = false

-- line n says that t waits for m
abbrev pub is_wait_at : ℕ → ℕ → ℕ → Moment → Bool
is_wait_at n t m x = says_waits t m x.line && (x.number == n)

-- the row has these as its line, thread and mutex
abbrev pub has_start : ℕ → ℕ → ℕ → Row → Bool
has_start n t m r =
    holds (slice_get r.numbers 0) n
    && (holds (slice_get r.numbers 2) t && holds (slice_get r.numbers 3) m)

-- the row is that of a wait at line n of t for m
abbrev pub is_row_at : ℕ → ℕ → ℕ → Row → Bool
is_row_at n t m r = is_wait r.word && has_start n t m r

-- A text has as many rows `wait` with a line, a thread and a mutex as it has such lines: one if
-- that line says that the thread waits for the mutex, or else none.
abbrev pub EachWaitLaw : Type 0
EachWaitLaw =
    (bytes : List (List ℕ)) (ls : List Line)
    → Says bytes ls
    → (n t m : ℕ)
    → count_by (is_row_at n t m) (rows_of (moments_of ls))
    ≡ count_by (is_wait_at n t m) (moments_of ls)
