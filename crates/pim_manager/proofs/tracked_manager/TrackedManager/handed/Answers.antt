use Rattle.std.proofs.Common.{ap, arith, length}
use Rattle.pim_manager.proofs.tracked_manager.TrackedManager.handed.Goals as goal

pub returns-clause-few : goal.returns-clause-few
returns-clause-few c =
    let listed = ap length c.new.ensures in
    let few = c.self.invariant.2 in let mutexes = c.mutexes-mutexes.ensures in
    omega (arith, listed, few, mutexes.count, mutexes.few)
