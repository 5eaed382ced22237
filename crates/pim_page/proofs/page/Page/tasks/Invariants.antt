use Rattle.std.proofs.Common.{◌≡◌, ◌++◌, ◌+◌, drop}
use Rattle.pim_page.specs.Printed.{tasks_text}
use Rattle.pim_page.proofs.page.Page.tasks.Given as goal

-- only the lines of the other tasks are missing
abbrev pub invariant-loop-index : goal.invariant-loop-index
invariant-loop-index l = l.self ++ tasks_text (l.index + 1) (drop l.index l.bases) ≡ l.fn.self ++ tasks_text 1 l.bases
