use Rattle.std.proofs.Common.{◌∙◌, nat_eq}
use Rattle.std.specs.HashMap.{get}
use Rattle.pim_world.proofs.InOrder.{on_ok}
use Rattle.pim_world.proofs.world.World.number_thread.Goals as goal

pub invariant_of-self-2-clause-threads_ordered : goal.invariant_of-self-2-clause-threads_ordered
invariant_of-self-2-clause-threads_ordered c n low high =
    let updates = on_ok c.insert.result _ c.if-is_err-2.ensures.negation c.insert.ensures.updates in
    updates.0 n
    ∙ c.last_in_order-last.ensures
    (get nat_eq c.args.self.now.threads) c.args.self.now.threads_ordered n low high
