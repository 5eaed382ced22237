use Rattle.pim_world.proofs.world.World.go.Goals as goal

pub returns-in-Fact-clause-world : goal.returns-in-Fact-clause-world
returns-in-Fact-clause-world c = rw c.in-Fact.is c.go_by_fact.ensures.world
