-- Which lists of lines are scripts: traces in which no reply was recorded and each actor is declared; and what each task
-- asks for in one.
use Rattle.std.specs.Prelude.{ℕ, ◌≡◌, ◌≤◌, ◌==◌, List, length, map, filter, None}
use Rattle.std.specs.List.{AllByRecursion}
use Rattle.pim_base.specs.Lists.{numbers}
use Rattle.pim_base.specs.Texts.{Trace, Spells, FirstBad}
use Rattle.pim_base.specs.declared.lines.StepLine.{StepLine}
use Rattle.pim_base.specs.declared.steps.Op.{Op}

-- no reply was recorded for the step, and its actor is one of this many tasks
pub record StandsInScript (tasks : ℕ) (line : StepLine) : Type 0 where
  pub unrecorded : line.recorded ≡ None
  pub declared : line.step.actor ≤ tasks

-- all steps of the trace are steps of a script
abbrev pub KeepsScriptRules : Trace → Type 0
KeepsScriptRules t = AllByRecursion (StandsInScript (length t.bases)) t.steps

-- the lines are the one spelling of the trace, which is a script
abbrev pub SpellsScript : List (List ℕ) → Trace → Type 0
SpellsScript ls t = Spells ls t × KeepsScriptRules t

-- the lines are those of a script
abbrev pub IsScript : List (List ℕ) → Type 0
IsScript ls = (t : Trace) × SpellsScript ls t

-- line n is the first that keeps the lines from being those of a script
abbrev pub FirstBadScriptLine : List (List ℕ) → ℕ → Type 0
FirstBadScriptLine ls n = FirstBad IsScript ls n

-- what the task asks for in the step lines, in order
abbrev pub script_of : List StepLine → ℕ → List Op
script_of ls t = map (λ (l : StepLine). l.step.op) (filter (λ (l : StepLine). l.step.actor == t) ls)

-- each task's script, that of task 1 first
abbrev pub scripts_of : Trace → List (List Op)
scripts_of t = map (script_of t.steps) (numbers (length t.bases))
