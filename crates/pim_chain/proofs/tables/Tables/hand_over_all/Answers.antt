use Rattle.std.proofs.Common.{length, ap, arith, sym, ◌∙◌}
use Rattle.pim_chain.proofs.OwnerVisits.{new_owner_visits-most}
use Rattle.pim_chain.proofs.Releasing.{releasing_none, releasing_next, first_owned}
use Rattle.pim_chain.proofs.tables.Tables.hand_over_all.Goals as goal

pub loop-mutex-init : goal.loop-mutex-init
loop-mutex-init c =
    releasing_none c.args.self.now c.args.task c.into_iter-mutex-iterator.result c.args.visits.now
    (c.into_iter-mutex-iterator.ensures.into_iter_gives ∙ (c.new-mutex-items.ensures ∙ c.owned_set-owned.ensures))
    c.requires.idle c.tasks-tasks.ensures.ready c.requires.settled

pub hand_over_unsettled-requires : goal.hand_over_unsettled-requires
hand_over_unsettled-requires c =
    let before = c.loop-mutex.invariant in
    let counted = before.counted in
    let few = before.few in
    let most = before.most in
    let left = ap length c.in-Some.ensures.steps in
    record {
      settled = before.settled;
      owned = (first_owned c.loop-mutex.self.state _ c.args.task _ (sym before.owns ∙ c.in-Some.ensures.steps)).owner;
      idle = before.idle;
      room = omega (arith, c.requires.room, counted, few, most, left);
    }

pub overflow_add-released : goal.overflow_add-released
overflow_add-released c =
    let counted = c.loop-mutex.invariant.counted in
    let few = c.loop-mutex.invariant.few in
    let left = ap length c.in-Some.ensures.steps in
    omega (arith, counted, few, left)

pub loop-mutex-preserved : goal.loop-mutex-preserved
loop-mutex-preserved c =
    let handed = c.hand_over_unsettled.ensures in
    let counted = handed.counted in
    let most = new_owner_visits-most c.loop-mutex.self c.hand_over_unsettled.new.self c.in-Some.mutex in
    releasing_next _ _ _ _ _ _ _ _ _ _ _ c.loop-mutex.invariant c.in-Some.ensures.steps handed.state handed.settled
    handed.owns_no_more handed.ready handed.work (omega (arith, counted, most))
