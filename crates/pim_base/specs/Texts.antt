-- Which lists of lines are traces, and which line is the first invalid one.
use Rattle.std.specs.Prelude.{ℕ, ◌≡◌, ◌+◌, ◌-◌, ◌≤◌, ◌<◌, List, [], ◌∷◌, ◌++◌, map, length, take, ◌⊎◌, ◌==◌}
use Rattle.std.specs.List.{AllByRecursion, slice_split}
use Rattle.pim_base.specs.declared.limits.TheConstants.{MAX_TASKS, MAX_MUTEXES, MAX_STEPS, LAST_VERSION}
use Rattle.pim_base.specs.declared.steps.Protocol.{Protocol}
use Rattle.pim_base.specs.declared.lines.StepLine.{StepLine}
use Rattle.pim_base.specs.declared.lines.Line.{Line}
use Rattle.pim_base.specs.declared.lines.Line.TheVariants as lines
use Rattle.pim_base.specs.Spelling.{NEWLINE, version_line, IsLine, BelongsTo, spelled}

-- the version of a text, what it declares, and its step lines, in order
pub record Trace : Type 0 where
  pub version : ℕ
  pub bases : List ℕ
  pub protocols : List Protocol
  pub steps : List StepLine

-- the lines of the tasks, numbered from n on
abbrev pub task_lines : ℕ → List ℕ → List Line
task_lines n [] = []
task_lines n (base ∷ bases) = lines.Task n base ∷ task_lines (n + 1) bases

-- the lines of the mutexes, numbered from n on
abbrev pub mutex_lines : ℕ → List Protocol → List Line
mutex_lines n [] = []
mutex_lines n (protocol ∷ protocols) = lines.Mutex n protocol ∷ mutex_lines (n + 1) protocols

-- below the version: the tasks, the mutexes, the steps
abbrev pub declared : Trace → List Line
declared t = task_lines 1 t.bases ++ (mutex_lines 1 t.protocols ++ map lines.Step t.steps)

-- a text of a known version, within the limits on numbers and on the lines of each part; each line exists in its
-- version
pub record IsWithinLimits (t : Trace) : Type 0 where
  pub version : (1 ≤ t.version) × (t.version ≤ LAST_VERSION)
  pub tasks : length t.bases ≤ MAX_TASKS
  pub mutexes : length t.protocols ≤ MAX_MUTEXES
  pub steps : length t.steps ≤ MAX_STEPS
  pub each : AllByRecursion IsLine (declared t)
  pub belongs : AllByRecursion (BelongsTo t.version) (declared t)

-- the one spelling of the text, line by line
abbrev pub spelled_lines : Trace → List (List ℕ)
spelled_lines t = version_line t.version ∷ map spelled (declared t)

-- the lines are the one spelling of the text
abbrev pub Spells : List (List ℕ) → Trace → Type 0
Spells ls t = IsWithinLimits t × (ls ≡ spelled_lines t)

-- the lines are those of a trace
abbrev pub IsTrace : List (List ℕ) → Type 0
IsTrace ls = (t : Trace) × Spells ls t

-- lines 1 to n aren't such a list, but lines 1 to n - 1 are, unless n is 1
abbrev pub FirstBad : (List (List ℕ) → Type 0) → List (List ℕ) → ℕ → Type 0
FirstBad Is ls n = ((n ≡ 1) ⊎ Is (take (n - 1) ls)) × (0 < n) × (Is (take n ls) → ⊥)

-- line n is the first that keeps the lines from being those of a trace
abbrev pub FirstBadLine : List (List ℕ) → ℕ → Type 0
FirstBadLine ls n = FirstBad IsTrace ls n

-- the parts between newlines, without the last if that is empty
abbrev pub without_empty_last : List (List ℕ) → List (List ℕ)
without_empty_last [] = []
without_empty_last ([] ∷ []) = []
without_empty_last ((b ∷ bytes) ∷ []) = (b ∷ bytes) ∷ []
without_empty_last (part ∷ next ∷ parts) = part ∷ without_empty_last (next ∷ parts)

-- the lines of the bytes
abbrev pub lines_of : List ℕ → List (List ℕ)
lines_of bytes = without_empty_last (slice_split (λ b. b == NEWLINE) bytes)
