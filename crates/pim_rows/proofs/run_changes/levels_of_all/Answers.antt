use Rattle.std.proofs.Common.{◌∙◌, ap, map}
use Rattle.std.proofs.lemmas.List.{take_all}
use Rattle.pim_world.specs.Held.{world_of}
use Rattle.pim_rows.specs.Runs.{levels_of}
use Rattle.pim_rows.proofs.RunChanges.{one_more_levels}
use Rattle.pim_rows.proofs.run_changes.levels_of_all.Goals as goal

pub loop-thread-preserved : goal.loop-thread-preserved
loop-thread-preserved c =
    one_more_levels
    (world_of c.args.world.now) _ c.loop-thread.thread-index c.thread-item.result _ _ _
    c.loop-thread-test.true
    c.thread-item.is c.run_apart.ensures c.loop-thread.invariant c.in-Ok.ensures.items

pub returns : goal.returns
returns c =
    c.loop-thread.invariant
    ∙ ap (map (levels_of (world_of c.args.world.now)))
    (take_all c.loop-thread.thread-index _ c.loop-thread-test.false
    ∙ c.deref-thread-items.ensures.value ∙ c.in_ok-threads.ensures)
