-- The two kinds of text, and the results of reading one.
use Rattle.std.specs.Prelude.{ℕ, List, length}
use Rattle.pim_base.specs.Texts.{Trace, Spells, FirstBad}
use Rattle.pim_base.specs.Scripts.{StandsInScript, KeepsScriptRules}
use Rattle.pim_base.specs.declared.lines.Line.{Line}
use Rattle.pim_base.specs.declared.lines.Line.TheVariants as lines
use Rattle.pim_text.specs.declared.kind.Kind.{Kind}
use Rattle.pim_text.specs.declared.kind.Kind.TheVariants as kinds
use Rattle.pim_text.specs.declared.fault.TextFault.{TextFault}
use Rattle.pim_text.specs.declared.fault.TextFault.TheVariants as faults

-- what a kind requires of a line after those of the text, beyond what a trace requires
abbrev pub Allows : Kind → Trace → Line → Type 0
Allows kinds.Trace t line = Unit {0}
Allows kinds.Script t (lines.Task n base) = Unit {0}
Allows kinds.Script t (lines.Mutex n protocol) = Unit {0}
Allows kinds.Script t (lines.Step line) = StandsInScript (length t.bases) line

-- what a kind requires of a whole text, beyond what a trace requires
abbrev pub Obeys : Kind → Trace → Type 0
Obeys kinds.Trace t = Unit {0}
Obeys kinds.Script t = KeepsScriptRules t

-- the lines are the one spelling of the text, which is of this kind
abbrev pub SpellsAs : Kind → List (List ℕ) → Trace → Type 0
SpellsAs kind ls t = Spells ls t × Obeys kind t

-- the lines are those of a text of this kind
abbrev pub IsOf : Kind → List (List ℕ) → Type 0
IsOf kind ls = (t : Trace) × SpellsAs kind ls t

-- why the lines aren't read: the first invalid one, or out of memory
abbrev pub IsTextFault : (List (List ℕ) → Type 0) → List (List ℕ) → TextFault → Type 0
IsTextFault Is ls (faults.Line n) = FirstBad Is ls n
IsTextFault Is ls faults.Memory = Unit {0}
