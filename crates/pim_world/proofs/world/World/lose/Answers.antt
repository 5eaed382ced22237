use Rattle.std.proofs.Common.{ap}
use Rattle.pim_world.specs.Worlds.{World}
use Rattle.pim_world.specs.After.{forgotten}
use Rattle.pim_world.proofs.world.World.lose.Goals as goal

pub returns-clause-world : goal.returns-clause-world
returns-clause-world c =
    rw c.forget.ensures
    (ap (λ (w : World). record w { kernel = forgotten w.kernel }) c.pass.ensures.world)
