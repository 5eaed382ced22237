use Rattle.std.proofs.Common.{◌≡◌, ◌-◌, max}
use Rattle.pim_base.specs.Lists.{contains}
use Rattle.pim_base.specs.Chains.{inherit_chain}
use Rattle.pim_base.specs.Priorities.{own_priority}
use Rattle.pim_base.proofs.Greatest.{greatest_of}
use Rattle.pim_plain.proofs.plain_manager.PlainManager.effective_priority.Given as goal

abbrev pub invariant-loop-number : goal.invariant-loop-number
invariant-loop-number l =
    l.prio
    ≡ max (own_priority l.self l.task) (greatest_of (own_priority l.self) (λ u. contains (inherit_chain l.self u) l.task) (l.number - 1))
