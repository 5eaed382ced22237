use Rattle.std.proofs.Common.{arith}
use Rattle.pim_rows.specs.Rows.{lasting_block}
use Rattle.pim_rows.proofs.Appended.{text_of_one_more}
use Rattle.pim_rows.proofs.lasting.put_lasting_blocks.Goals as goal

pub loop-place-preserved : goal.loop-place-preserved
loop-place-preserved c ms w are =
    text_of_one_more (lasting_block ms)
    c.args.places.now c.loop-place.place-index c.place-item.result c.args.out.now.items _ _
    (omega arith) c.place-item.is
    (c.loop-place.invariant ms w are) (c.in_ok-put_lasting_block.ensures ms w are)
