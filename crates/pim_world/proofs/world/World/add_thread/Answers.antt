use Rattle.std.proofs.Common.{ap, ◌∙◌, refl}
use Rattle.pim_world.specs.After.{with_thread_number}
use Rattle.pim_world.proofs.world.World.add_thread.Goals as goal

pub returns : goal.returns
returns c =
    c.in_ok-number_thread.ensures
    ∙ ap (with_thread_number c.args.number)
    (simp (
      c.in_ok-add_thread.ensures.ok,
      c.in_ok-add_thread-2.ensures,
      c.push.ensures.items,
      c.if-is_err.ensures.negation,
    )
    refl)
