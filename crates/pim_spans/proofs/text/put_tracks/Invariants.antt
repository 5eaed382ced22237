use Rattle.std.proofs.Common.{◌≡◌, ◌++◌, flat_map}
use Rattle.pim_base.specs.Lists.{numbers}
use Rattle.pim_world.specs.Held.{world_of}
use Rattle.pim_spans.specs.Kept.{kept_at, all_text}
use Rattle.pim_spans.proofs.text.put_tracks.Given as goal

-- the places so far
abbrev pub invariant-loop-index : goal.invariant-loop-index
invariant-loop-index l =
    l.out.items ≡ l.fn.out.items
    ++ flat_map
    (λ n. all_text l.fn.window (world_of l.world) l.fn.kind n (kept_at l.tracks.tracks.items n))
    (numbers l.index)
