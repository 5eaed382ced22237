use Rattle.pim_base.specs.Chains.{blocker}
use Rattle.pim_world.specs.Standing.{thread_number}
use Rattle.pim_rows.proofs.Cycles.{Walks}
use Rattle.pim_world.specs.Held.{world_of}
use Rattle.pim_rows.proofs.deadlocks.find_cycle.Given as goal

abbrev pub invariant-loop-hop : goal.invariant-loop-hop
invariant-loop-hop l =
    let w = world_of l.world in
    Walks (blocker w.state) (thread_number w) l.fn.thread l.count l.hop l.next l.numbers.items
