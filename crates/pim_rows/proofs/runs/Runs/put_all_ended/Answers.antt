use Rattle.pim_rows.proofs.Running.{more_rows}
use Rattle.pim_rows.proofs.runs.Runs.put_all_ended.Goals as goal

pub loop-change-preserved : goal.loop-change-preserved
loop-change-preserved c =
    more_rows _ c.args.changes.now c.loop-change.change-index c.change-item.result _ _ _
    c.loop-change-test.true c.change-item.is c.loop-change.invariant c.in_ok-put_ended.ensures
