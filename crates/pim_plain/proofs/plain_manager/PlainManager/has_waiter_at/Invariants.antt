use Rattle.std.proofs.Common.{◌≡◌, ◌==◌, ◌-◌}
use Rattle.std.specs.List.{list_any}
use Rattle.pim_base.specs.Queues.{waiter_of}
use Rattle.pim_base.proofs.Firsts.{queue_upto}
use Rattle.pim_plain.proofs.plain_manager.PlainManager.has_waiter_at.Given as goal

-- whether one of the waiters so far has that priority
abbrev pub invariant-loop-number : goal.invariant-loop-number
invariant-loop-number l =
    l.found ≡ list_any (λ w. w.prio == l.prio) (queue_upto (waiter_of l.self l.mutex) (l.number - 1))
