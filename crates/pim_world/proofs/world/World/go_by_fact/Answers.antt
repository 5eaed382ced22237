use Rattle.std.proofs.Common.{ap, ◌∙◌, sym}
use Rattle.pim_world.specs.After.{after_what}
use Rattle.pim_world.proofs.world.World.go_by_fact.Goals as goal

pub returns-in_ok-happen-in-Some-clause-world : goal.returns-in_ok-happen-in-Some-clause-world
returns-in_ok-happen-in-Some-clause-world c =
    rw (sym c.in-Some.ensures.place)
    (c.in_ok-happen-in-Some.ensures.world
    ∙ ap (after_what c.args.what.now c.in-Some.place) c.pass.ensures.world)

pub returns-in-None-clause-world : goal.returns-in-None-clause-world
returns-in-None-clause-world c = rw (sym c.in-None.ensures.place) c.pass.ensures.world
