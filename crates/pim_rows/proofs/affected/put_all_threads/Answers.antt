use Rattle.std.proofs.Common.{◌≡◌, length, ap, arith}
use Rattle.pim_base.specs.State.{State}
use Rattle.pim_rows.proofs.SameStanding.{upto_none, upto_more}
use Rattle.pim_rows.proofs.affected.put_all_threads.Goals as goal

pub loop-index-init : goal.loop-index-init
loop-index-init c t low high = upto_none _ t low high

pub loop-index-preserved : goal.loop-index-preserved
loop-index-preserved c t low high =
    upto_more _ _ c.loop-index.index t c.in-Ok.ensures.items c.loop-index.invariant low high

pub returns : goal.returns
returns c t task =
    let h = c.loop-index-test.false in
    let k = c.threads-index-end.ensures in
    let n : length c.waits.result.now.base ≡ _ =
    ap (λ (S : State). length S.base) c.waits.ensures in
    c.loop-index.invariant t task.0 (omega (arith, h, k, n, task.1))
