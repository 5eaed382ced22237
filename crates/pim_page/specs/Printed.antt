-- The parts of the lines.
use Rattle.std.specs.Prelude.{ℕ, List, ◌++◌, codes, decimal, map, flat_map}
use Rattle.std.specs.List.{join_with_byte}
use Rattle.pim_base.specs.Spelling.{SPACE, spelled, protocol_words, op_words}
use Rattle.pim_base.specs.Texts.{task_lines, mutex_lines}
use Rattle.pim_base.specs.Recordings.{ended, entry_line}
use Rattle.pim_base.specs.Reports.{reason_words}
use Rattle.pim_base.specs.declared.lines.Line.TheVariants as lines
use Rattle.pim_base.specs.declared.steps.Entry.{Entry}
use Rattle.pim_base.specs.declared.steps.Op.{Op}
use Rattle.pim_base.specs.declared.steps.Protocol.{Protocol}
use Rattle.pim_base.specs.declared.steps.Reason.{Reason}

abbrev pub protocol_text : Protocol → List ℕ
protocol_text protocol = join_with_byte SPACE (protocol_words protocol)

abbrev pub op_text : Op → List ℕ
op_text op = join_with_byte SPACE (op_words op)

abbrev pub reason_text : Reason → List ℕ
reason_text r = join_with_byte SPACE (reason_words r)

-- "  task <t> at <p> <reason>"
unfoldable pub changed_line : ℕ → ℕ → Reason → List ℕ
changed_line t p r =
    codes "  task " ++ decimal t ++ codes " at " ++ decimal p ++ codes " " ++ reason_text r ++ codes "\n"

-- the lines of the tasks, numbered from n on
abbrev pub tasks_text : ℕ → List ℕ → List ℕ
tasks_text n bases = flat_map ended (map spelled (task_lines n bases))

-- the lines of the mutexes, numbered from n on
abbrev pub mutexes_text : ℕ → List Protocol → List ℕ
mutexes_text n protocols = flat_map ended (map spelled (mutex_lines n protocols))

-- the line of the entry
abbrev pub entry_text : Entry → List ℕ
entry_text e = ended (spelled (lines.Step (entry_line e)))
