use Rattle.pim_world.proofs.world.World.refusal.Goals as goal

pub returns-in-Thread : goal.returns-in-Thread
returns-in-Thread c =
    simp (c.in-Thread.is, c.if-self.false) (c.refusal_of_thread.ensures c.in-Thread.field-1)
