use Rattle.pim_rows.proofs.Waiting.{Follows-new}
use Rattle.pim_rows.proofs.open_wait.OpenWait.new.Goals as goal

pub returns : goal.returns
returns c t ms m before shows =
    Follows-new t ms m c.args.clock c.args.standing c.new.result c.new.ensures before shows
