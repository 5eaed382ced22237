use Rattle.pim_world.specs.Held.{world_of}
use Rattle.pim_spans.specs.Kept.{kept_at, all_text}
use Rattle.pim_spans.proofs.Puts.{one_more}
use Rattle.pim_spans.proofs.text.put_tracks.Goals as goal

pub loop-index-preserved : goal.loop-index-preserved
loop-index-preserved c =
    one_more
    (λ n. all_text c.args.window (world_of c.args.world.now) c.args.kind n
    (kept_at c.args.tracks.now.tracks.items n))
    c.loop-index.index _ _ _ c.loop-index.invariant c.in_ok-put_place.ensures
