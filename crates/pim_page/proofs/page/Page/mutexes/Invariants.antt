use Rattle.std.proofs.Common.{◌≡◌, ◌++◌, ◌+◌, drop}
use Rattle.pim_page.specs.Printed.{mutexes_text}
use Rattle.pim_page.proofs.page.Page.mutexes.Given as goal

-- only the lines of the other mutexes are missing
abbrev pub invariant-loop-index : goal.invariant-loop-index
invariant-loop-index l =
    l.self ++ mutexes_text (l.index + 1) (drop l.index l.protocols) ≡ l.fn.self ++ mutexes_text 1 l.protocols
