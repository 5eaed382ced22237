use Rattle.pim_world.proofs.world.World.refusal_of.Goals as goal

pub returns-in-Ceiling : goal.returns-in-Ceiling
returns-in-Ceiling c =
    rw c.in-Ceiling.is (c.refusal_of_ceiling.ensures c.args.thread c.in-Ceiling.field-1)
