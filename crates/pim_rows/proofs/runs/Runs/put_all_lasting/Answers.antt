use Rattle.pim_rows.proofs.Running.{more_rows}
use Rattle.pim_rows.proofs.runs.Runs.put_all_lasting.Goals as goal

pub loop-one-preserved : goal.loop-one-preserved
loop-one-preserved c =
    more_rows _ c.args.threads.now c.loop-one.one-index c.one-item.result _ _ _
    c.loop-one-test.true c.one-item.is c.loop-one.invariant c.in_ok-put_ended.ensures
