use Rattle.std.proofs.Common.{sym, subst}
use Rattle.pim_base.specs.State.{State}
use Rattle.pim_waits.specs.Touched.{Touches}
use Rattle.pim_world.specs.Held.{touched_of}
use Rattle.pim_world.proofs.Touching.{touches_count}
use Rattle.pim_world.proofs.world.World.lock.Goals as goal

pub returns-clause-touched : goal.returns-clause-touched
returns-clause-touched c =
    let S = c.args.self.now.waits in
    let before = touched_of c.args.self.now in
    let P : State → Type 0 = λ T. Touches S T before before in
    subst P (sym c.put_count.ensures) (touches_count S c.args.mutex _ before)
