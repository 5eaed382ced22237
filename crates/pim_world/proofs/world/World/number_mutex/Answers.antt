use Rattle.std.proofs.Common.{◌∙◌, sym, nat_eq}
use Rattle.std.specs.HashMap.{get}
use Rattle.pim_world.proofs.InOrder.{on_ok, known_more}
use Rattle.pim_world.proofs.world.World.number_mutex.Goals as goal

pub invariant_of-self-2-clause-mutexes_known : goal.invariant_of-self-2-clause-mutexes_known
invariant_of-self-2-clause-mutexes_known c n m e =
    let updates = on_ok c.insert.result _ c.if-is_err-2.ensures.negation c.insert.ensures.updates in
    known_more _ c.mutexes.result _ m _ c.mutexes.ensures
    c.requires (c.args.self.now.mutexes_known n m) (sym (updates.0 n) ∙ e)

pub invariant_of-self-2-clause-mutexes_ordered : goal.invariant_of-self-2-clause-mutexes_ordered
invariant_of-self-2-clause-mutexes_ordered c n low high =
    let updates = on_ok c.insert.result _ c.if-is_err-2.ensures.negation c.insert.ensures.updates in
    updates.0 n
    ∙ c.last_in_order-last.ensures
    (get nat_eq c.args.self.now.mutexes) c.args.self.now.mutexes_ordered n low high
