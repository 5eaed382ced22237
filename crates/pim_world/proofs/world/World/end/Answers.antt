use Rattle.std.proofs.Common.{ap, true}
use Rattle.pim_world.specs.Worlds.{World}
use Rattle.pim_world.proofs.world.World.end.Goals as goal

pub returns-clause-world : goal.returns-clause-world
returns-clause-world c = ap (λ (w : World). record w { has_ended = true }) c.pass.ensures.world
