use Rattle.std.proofs.Common.{◌≡◌, ◌++◌, flat_map}
use Rattle.pim_base.specs.Reports.{reply_line}
use Rattle.pim_judge.specs.Printed.{line_of}
use Rattle.pim_judge.proofs.report.answer.Given as goal

-- only the lines of the other tasks are missing
abbrev pub invariant-loop-task : goal.invariant-loop-task
invariant-loop-task l =
    l.page ++ flat_map line_of l.task-iterator
    ≡ l.fn.page ++ (reply_line l.number l.reply ++ flat_map line_of l.manager.changed)
