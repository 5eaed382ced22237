use Rattle.std.proofs.Common.{refl}
use Rattle.pim_world.proofs.world.World.new.Goals as goal

pub returns : goal.returns
returns c =
    simp (
      c.new.ensures.empty,
      c.new-2.ensures.empty,
      c.new-3.ensures.empty,
      c.new-4.ensures.items,
      c.new-5.ensures.items,
      c.new-6.ensures,
      c.new-7.ensures.items,
      c.new-8.ensures.items,
      c.new-9.ensures,
    ) refl
