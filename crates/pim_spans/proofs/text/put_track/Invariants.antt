use Rattle.std.proofs.Common.{◌≡◌, ◌++◌, flat_map, take}
use Rattle.pim_world.specs.Held.{world_of}
use Rattle.pim_spans.specs.Words.{span_text}
use Rattle.pim_spans.proofs.text.put_track.Given as goal

-- the spans so far
abbrev pub invariant-loop-span : goal.invariant-loop-span
invariant-loop-span l =
    l.out.items ≡ l.fn.out.items
    ++ flat_map (span_text (world_of l.world) l.fn.kind l.fn.place)
    (take l.span-index l.track.spans.items)
