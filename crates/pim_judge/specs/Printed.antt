-- The parts of what is printed.
use Rattle.std.specs.Prelude.{ℕ, List, ◌++◌, Option, flat_map, if◌then◌else◌}
use Rattle.pim_base.specs.Spelling.{version_line}
use Rattle.pim_base.specs.Texts.{Trace}
use Rattle.pim_base.specs.Recordings.{ended}
use Rattle.pim_base.specs.Reports.{agrees, reply_line, rejection_lines, accepted, rejected}
use Rattle.pim_base.specs.declared.lines.Verdict.{Verdict}
use Rattle.pim_base.specs.declared.lines.Verdict.TheVariants as verdicts
use Rattle.pim_base.specs.declared.steps.Reply.{Reply}
use Rattle.pim_manager.specs.declared.changed_tasks.ChangedTask.{ChangedTask}
use Rattle.pim_page.specs.Printed.{changed_line, tasks_text, mutexes_text}

-- the line of a changed task
abbrev pub line_of : ChangedTask → List ℕ
line_of c = changed_line c.task c.prio c.reason

-- the lines of a step with this reply, which changed these tasks
unfoldable pub shown_lines : ℕ → Reply → Option Reply → List ChangedTask → List ℕ
shown_lines k reply recorded cs =
    if agrees recorded reply then reply_line k reply ++ flat_map line_of cs else rejection_lines k reply recorded

-- the last line of a report
abbrev pub verdict_line : Verdict → List ℕ
verdict_line (verdicts.Accepted n) = accepted n
verdict_line (verdicts.Rejected k) = rejected k

-- the lines before the steps: the version, and what the text declares
abbrev pub declarations_text : Trace → List ℕ
declarations_text t = ended (version_line t.version) ++ (tasks_text 1 t.bases ++ mutexes_text 1 t.protocols)
