use Rattle.std.proofs.Common.{◌≡◌, ◌-◌, max}
use Rattle.pim_base.specs.Lists.{holds}
use Rattle.pim_base.specs.State.{base_of, owner_of}
use Rattle.pim_base.specs.Priorities.{ceiling_of}
use Rattle.pim_base.proofs.Greatest.{greatest_of}
use Rattle.pim_plain.proofs.plain_manager.PlainManager.own_priority.Given as goal

abbrev pub invariant-loop-number : goal.invariant-loop-number
invariant-loop-number l =
    l.prio
    ≡ max (base_of l.self l.task) (greatest_of (ceiling_of l.self) (λ m. holds (owner_of l.self m) l.task) (l.number - 1))
