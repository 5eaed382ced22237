use Rattle.std.proofs.Common.{◌≡◌, ◌∙◌, ap, arith, length}
use Rattle.std.specs.Map.{values_of}
use Rattle.pim_base.specs.State.{State}
use Rattle.pim_base.specs.Lists.{numbers, sort_by}
use Rattle.pim_world.specs.Standing.{thread_number}
use Rattle.pim_world.specs.Held.{world_of}
use Rattle.pim_rows.proofs.ByNumber.{insert_entry-next, values_of-keyed, is_lower}
use Rattle.pim_rows.proofs.deadlocks.by_number.Goals as goal

pub loop-index-preserved : goal.loop-index-preserved
loop-index-preserved c =
    insert_entry-next
    _ _ _ _ _ c.loop-index.invariant c.thread_number-number.ensures c.in-Ok.ensures.entries

pub returns : goal.returns
returns c =
    let number = thread_number (world_of c.args.world.now) in
    let all : c.loop-index.index ≡ c.in_ok-count.count = omega arith in
    let count = all ∙ c.in_ok-count.ensures in
    c.in_ok-places.ensures ∙ ap values_of c.loop-index.invariant ∙ values_of-keyed number _
    ∙ ap (λ n. sort_by (is_lower number) (numbers n))
    (count ∙ ap (λ (S : State). length S.base) c.waits.ensures)
