use Rattle.std.proofs.Common.{arith, ap, unwrap_or, None}
use Rattle.pim_rows.specs.Rows.{lasting_wait}
use Rattle.pim_rows.proofs.Appended.{puts_one_more}
use Rattle.pim_rows.proofs.lasting.put_lasting_waits.Goals as goal

pub put_lasting_wait-requires : goal.put_lasting_wait-requires
put_lasting_wait-requires c = λ t w is. c.requires t w (c.loop-place.invariant.left t w is)

pub loop-place-preserved : goal.loop-place-preserved
loop-place-preserved c =
    let so_far = c.loop-place.invariant in
    let most = c.in_ok-counts.ensures.most in
    record {
      rows = λ ms w are all.
          puts_one_more (lasting_wait ms) c.args.places.now
          c.loop-place.place-index c.place-item.result c.args.out.now.items _ _ _ _ _ _
          (omega arith) c.place-item.is (so_far.rows ms w are all)
          (c.in_ok-counts.ensures.rows ms w are
          (λ t w is. all.each t w (ap (λ o. unwrap_or o None) (so_far.left t w is))));
      left = λ t w is. so_far.left t w (c.put_lasting_wait.ensures.left t w is);
      few = let n = so_far.few in let one = most.0 in omega arith;
      fewer = let n = so_far.fewer in let one = most.1 in omega arith;
    }
