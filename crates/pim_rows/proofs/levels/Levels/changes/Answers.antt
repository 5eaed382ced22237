use Rattle.std.proofs.Common.{◌∙◌, ap, map}
use Rattle.std.proofs.lemmas.List.{take_all}
use Rattle.pim_world.specs.Held.{world_of}
use Rattle.pim_rows.specs.Runs.{change_of}
use Rattle.pim_rows.proofs.RunChanges.{one_more_change}
use Rattle.pim_rows.proofs.levels.Levels.changes.Goals as goal

pub loop-thread-preserved : goal.loop-thread-preserved
loop-thread-preserved c w are =
    one_more_change w (world_of c.args.world.now)
    c.args.threads.now c.loop-thread.thread-index c.thread-item.result _ _ _ _
    c.loop-thread-test.true c.thread-item.is
    (c.of.ensures ∙ are c.thread-item.result) c.run_apart.ensures
    (c.loop-thread.invariant w are) c.in-Ok.ensures.items

pub returns : goal.returns
returns c w are =
    c.loop-thread.invariant w are
    ∙ ap (map (change_of w (world_of c.args.world.now)))
    (take_all c.loop-thread.thread-index _ c.loop-thread-test.false)
