use Rattle.std.proofs.Common.{◌≡◌, Some, length}
use Rattle.pim_base.specs.Lists.{contains}
use Rattle.pim_base.specs.State.{IsMutex}
use Rattle.pim_base.specs.Chains.{waits_chain}
use Rattle.pim_base.specs.declared.steps.Wait.{Wait}
use Rattle.pim_chain.proofs.Hopping.{rest}
use Rattle.pim_chain.proofs.tables.Tables.known_on_chain.Given as goal

-- the rest of the chain has the task exactly if the whole chain has it, and a known mutex leads to it
abbrev pub invariant-loop-waits : goal.invariant-loop-waits
invariant-loop-waits l =
    (contains (waits_chain l.self.state l.fn.from) l.task ≡ contains (rest l.self.state l.waits) l.task)
    × ((w : Wait) → l.waits ≡ Some w → IsMutex l.self.state w.mutex)

abbrev pub decreases-loop-waits : goal.decreases-loop-waits
decreases-loop-waits l = length (rest l.self.state l.waits)
