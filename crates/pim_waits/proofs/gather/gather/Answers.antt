use Rattle.std.proofs.Common.{◌≡◌, get_or, sym, ◌∙◌, subst, arith, below_more}
use Rattle.std.proofs.lemmas.Option.{slice_get_within, get_or_from_slice_get}
use Rattle.pim_waits.specs.Members.{HasNeighbours}
use Rattle.pim_waits.proofs.Gathering.{extends-trans, extends-get_or, extends-length}
use Rattle.pim_waits.proofs.Gathering.{neighbours-extended, closed_all}
use Rattle.pim_waits.proofs.Lists.{past_end}
use Rattle.pim_waits.proofs.gather.gather.Goals as goal

pub overflow_add-done : goal.overflow_add-done
overflow_add-done c =
    let within = slice_get_within c.loop-thread.component.threads
    c.loop-thread.done c.in-Some.thread (sym c.in-Some.ensures.value) in
    omega (arith, within, c.get.ensures.small)

pub loop-thread-smaller : goal.loop-thread-smaller
loop-thread-smaller c =
    let within = slice_get_within c.loop-thread.component.threads
    c.loop-thread.done c.in-Some.thread (sym c.in-Some.ensures.value) in
    omega (arith, within, c.get.ensures.few, c.loop-thread.invariant.extends.room)

pub loop-thread-preserved : goal.loop-thread-preserved
loop-thread-preserved c =
    let S = c.args.facts.now in
    let before = c.loop-thread.component in
    let after = c.add_neighbours.new.component in
    let i = c.loop-thread.done in
    let more = c.in_ok-add_neighbours.ensures.extends in
    let within = slice_get_within before.threads i c.in-Some.thread (sym c.in-Some.ensures.value) in
    let here : get_or after.threads i 0 ≡ c.in-Some.thread =
    extends-get_or before after i more within
    ∙ get_or_from_slice_get before.threads i c.in-Some.thread 0 (sym c.in-Some.ensures.value) in
    record {
      extends =
          extends-trans c.args.component.now before after c.loop-thread.invariant.extends more;
      few = omega (arith, within, extends-length before after more);
      each = below_more _ _
          (λ k low.
          subst (HasNeighbours S after.threads)
          (sym (extends-get_or before after k more (omega (arith, low, within))))
          (neighbours-extended S before after
          (get_or before.threads k 0) more (c.loop-thread.invariant.each k low)))
          (subst
          (HasNeighbours S after.threads) (sym here) c.in_ok-add_neighbours.ensures.neighbours);
    }

pub returns-clause-closed : goal.returns-clause-closed
returns-clause-closed c =
    let all = past_end c.loop-thread.component.threads c.loop-thread.done
    (sym c.in_default.ensures.value) in
    closed_all c.args.facts.now c.loop-thread.component.threads
    (λ k low. c.loop-thread.invariant.each k (omega (arith, low, all)))
