-- What is kept of threads that the kernel runs at another level than they get: docs/ROWS.md, 'ran'.
use Rattle.std.specs.Prelude.{◌≡◌, ℕ, Bool, true, false, List, [], Option, Some, None, map, length}
use Rattle.std.specs.Prelude.{flat_map, if◌then◌else◌}
use Rattle.std.specs.List.{filter, fold}
use Rattle.std.specs.Option.{option_map_or}
use Rattle.pim_base.specs.Lists.{contains}
use Rattle.pim_world.specs.Worlds.{World}
use Rattle.pim_world.specs.After.{after, set}
use Rattle.pim_fact_lines.specs.declared.line.Line.{Line}
use Rattle.pim_fact_lines.specs.declared.line.Line.TheVariants as lines
use Rattle.pim_fact_lines.specs.declared.line.What.{What}
use Rattle.pim_fact_lines.specs.declared.line.What.TheVariants as whats
use Rattle.pim_rows.specs.declared.runs.RunChange.{RunChange}
use Rattle.pim_rows.specs.declared.runs.RunLevels.{RunLevels}
use Rattle.pim_rows.specs.Moments.{Moment, now, began}
use Rattle.pim_rows.specs.Begun.{run_apart, are_levels, is_run_apart, RunStart, run_start}
use Rattle.pim_rows.specs.Begun.{run_start_at}
use Rattle.pim_rows.specs.Rows.{Row, ran_rows, by_number}

-- of each thread that the kernel runs at another level than it gets it is kept how that began
abbrev pub AreRuns : (ℕ → Option RunStart) → List Moment → Type 0
AreRuns kept ms =
    (t : ℕ) (both : ℕ × ℕ) → run_apart (now ms) t ≡ Some both
    → kept t ≡ Some (run_start t both (began (is_run_apart t both) ms))

-- the levels of t
abbrev pub levels_of : World → ℕ → RunLevels
levels_of w t = record { thread = t; levels = run_apart w t }

-- the levels of t in one world and the next
abbrev pub change_of : World → World → ℕ → RunChange
change_of w after t = record { thread = t; before = run_apart w t; now = run_apart after t }

-- of each thread, and no other, the kernel may have a level at which it runs it
abbrev pub IsEven : World → Type 0
IsEven w = length w.kernel.runs ≡ length w.state.base

-- these are the changes of these threads, in the order of their numbers, from one world to the
-- next; no other thread's levels change
pub record AreChanges (w after : World) (ts : List ℕ) (changes : List RunChange) : Type 0 where
  pub values : changes ≡ map (change_of w after) ts
  pub others : (t : ℕ) → contains ts t ≡ false → run_apart after t ≡ run_apart w t
  pub order : filter (contains ts) (by_number w) ≡ ts

-- the row of what began as is kept, if the levels were these before the line of this number, at
-- this time, and are those now
abbrev pub ended_by : Option RunStart → ℕ → ℕ → Option (ℕ × ℕ) → Option (ℕ × ℕ) → List Row
ended_by kept time line before now =
    option_map_or
    (λ both. if are_levels both now then [] else option_map_or (λ s. ran_rows s time line) kept [])
    before
    []

-- what is kept with what begins for t, if its levels were these before the line of this number,
-- after which the world is this, and are those now
abbrev pub with_begun :
    World
    → ℕ
    → (ℕ → Option RunStart)
    → ℕ
    → Option (ℕ × ℕ)
    → Option (ℕ × ℕ)
    → ℕ
    → Option RunStart
with_begun w line kept t before now =
    option_map_or
    (λ both. if are_levels both before
    then kept else set t (Some (run_start_at t line both w)) kept)
    now
    kept

-- the rows of what these changes end
abbrev pub all_ended : (ℕ → Option RunStart) → ℕ → ℕ → List RunChange → List Row
all_ended kept time line cs = flat_map (λ c. ended_by (kept c.thread) time line c.before c.now) cs

-- what is kept with all that these changes begin
abbrev pub with_all : World → ℕ → (ℕ → Option RunStart) → List RunChange → ℕ → Option RunStart
with_all w line kept cs = fold (λ kept c. with_begun w line kept c.thread c.before c.now) kept cs

-- the rows of what lasts until this time, if these are the levels now
abbrev pub all_lasting : (ℕ → Option RunStart) → ℕ → List RunLevels → List Row
all_lasting kept time ls = flat_map (λ t. ended_by (kept t.thread) time 0 t.levels None) ls

-- the kernel runs a thread at a level from now on
abbrev pub runs_now : What → Bool
runs_now (whats.Granted m) = false
runs_now (whats.Took m) = false
runs_now (whats.Waits m) = false
runs_now (whats.GaveUp m) = false
runs_now (whats.Released m) = false
runs_now (whats.Priority level) = false
runs_now (whats.Ceiling m level) = false
runs_now (whats.Blocks x) = false
runs_now (whats.Resumes x ended) = false
runs_now (whats.Runs level) = true
runs_now (whats.On cpu) = false
runs_now whats.OffReady = false
runs_now whats.OffAsleep = false

-- the line says so
abbrev pub is_runs : Line → Bool
is_runs (lines.Thread t level) = false
is_runs (lines.Mutex m is_recursive protocol) = false
is_runs (lines.Object x) = false
is_runs lines.Unseen = false
is_runs (lines.Fact time t what) = runs_now what
is_runs (lines.Lost time) = false
is_runs (lines.End time) = false
