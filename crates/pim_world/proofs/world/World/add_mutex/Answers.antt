use Rattle.std.proofs.Common.{ap, ◌∙◌, refl}
use Rattle.pim_world.specs.After.{with_mutex_number}
use Rattle.pim_world.proofs.world.World.add_mutex.Goals as goal

pub returns : goal.returns
returns c =
    c.in_ok-number_mutex.ensures
    ∙ ap (with_mutex_number c.args.number)
    (simp (c.in_ok-add_mutex.ensures.ok, c.push.ensures.items, c.if-is_err.ensures.negation) refl)
