use Rattle.std.proofs.Common.{arith}
use Rattle.pim_rows.proofs.Calm.{calm_none, calm_more, calm_all}
use Rattle.pim_rows.proofs.open_waits.OpenWaits.put_inverted.Goals as goal

pub loop-index-init : goal.loop-index-init
loop-index-init c = calm_none c.args.self.now.opens.items _

pub loop-index-preserved : goal.loop-index-preserved
loop-index-preserved c =
    calm_more c.args.self.now.opens.items
    _ c.note.new.threads.items c.loop-index.index c.in_ok-note.ensures.kept
    c.in_ok-note.ensures.here c.loop-index.invariant

pub returns : goal.returns
returns c =
    calm_all c.args.self.now.opens.items _ c.loop-index.index
    (let h = c.loop-index-test.false in
    let k = c.len-index-end.ensures in omega (arith, h, k)) c.loop-index.invariant
