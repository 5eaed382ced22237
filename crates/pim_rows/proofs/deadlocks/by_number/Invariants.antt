use Rattle.std.proofs.Common.{◌≡◌, map}
use Rattle.pim_base.specs.Lists.{numbers, sort_by}
use Rattle.pim_world.specs.Standing.{thread_number}
use Rattle.pim_rows.proofs.ByNumber.{keyed, is_lower}
use Rattle.pim_world.specs.Held.{world_of}
use Rattle.pim_rows.proofs.deadlocks.by_number.Given as goal

-- the places so far
abbrev pub invariant-loop-index : goal.invariant-loop-index
invariant-loop-index l =
    let number = thread_number (world_of l.world) in
    l.places.entries ≡ map (keyed number) (sort_by (is_lower number) (numbers l.index))
