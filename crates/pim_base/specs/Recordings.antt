-- The trace of a run of a script, and its text.
use Rattle.std.specs.Prelude.{ℕ, List, [], ◌∷◌, ◌++◌, map, Some, flat_map}
use Rattle.pim_base.specs.State.{State, start}
use Rattle.pim_base.specs.Runs.{IsRun, IsInterleaving}
use Rattle.pim_base.specs.Spelling.{NEWLINE}
use Rattle.pim_base.specs.Texts.{Trace, spelled_lines}
use Rattle.pim_base.specs.Scripts.{scripts_of}
use Rattle.pim_base.specs.declared.steps.Entry.{Entry}
use Rattle.pim_base.specs.declared.lines.StepLine.{StepLine}

-- the entries are a run of the script from the state in which all mutexes are free, and in them each task's steps are its
-- script and then one release of all
pub record IsRunOf (script : Trace) (es : List Entry) : Type 0 where
  pub run : (end : State) × IsRun (start script.bases script.protocols 1) es end
  pub interleaving : IsInterleaving es (scripts_of script)

-- the entry as a step line, with its reply as the recorded one
abbrev pub entry_line : Entry → StepLine
entry_line e = record { step = e.step; recorded = Some e.reply }

-- the version of the script, what it declares, and then the entries
abbrev pub recording : Trace → List Entry → Trace
recording script es = record {
  version = script.version;
  bases = script.bases;
  protocols = script.protocols;
  steps = map entry_line es;
}

-- the line and a newline
abbrev pub ended : List ℕ → List ℕ
ended line = line ++ NEWLINE ∷ []

-- the text of a trace: each of its lines, ended by a newline
abbrev pub text_of : Trace → List ℕ
text_of t = flat_map ended (spelled_lines t)
