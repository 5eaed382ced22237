use Rattle.std.proofs.Common.{◌≡◌, ◌∙◌, ◌+◌, ap, arith, length, refl, subst, sym, Some, None}
use Rattle.std.specs.Option.{option_map}
use Rattle.std.proofs.lemmas.Option.{none-some}
use Rattle.pim_base.specs.State.{owner_of, wait_of}
use Rattle.pim_base.specs.Queues.{first_of}
use Rattle.pim_base.specs.Steps.{hand_over_to}
use Rattle.pim_base.specs.declared.steps.Waiter.{Waiter}
use Rattle.pim_chain.specs.Views.{View, stored_at}
use Rattle.pim_chain.specs.Owned.{new_owner_visits}
use Rattle.pim_chain.specs.Settled.{SettledBut}
use Rattle.pim_sets.specs.Work.{Tells}
use Rattle.pim_chain.proofs.Known.{owned_mutex}
use Rattle.pim_chain.proofs.NoHigher.{lost_settled}
use Rattle.pim_chain.proofs.OwnerVisits.{new_owner_visits-none}
use Rattle.pim_chain.proofs.Releasing.{all_but_zero, first_apart, first_waits, freed_apart, freed_owner, handed_state, idle_is_other, lost_owner}
use Rattle.pim_chain.proofs.Told.{tells-same}
use Rattle.pim_chain.proofs.tables.Tables.hand_over_unsettled.Goals as goal

-- the first waiter is the definitions'
taken : (c : goal.After-result-1) → first_of c.args.self.now.state c.args.mutex ≡ Some c.in-Some.waiter
taken c =
    first_apart c.args.self.now _ _ _ _ c.tasks-tasks.ensures.ready c.requires.owned c.requires.idle c.requires.settled
    c.known_first-first.ensures c.in-Some.is

none : (c : goal.In_default) → first_of c.args.self.now.state c.args.mutex ≡ None
none c =
    first_apart c.args.self.now _ _ _ _ c.tasks-tasks.ensures.ready c.requires.owned c.requires.idle c.requires.settled
    c.known_first-first.ensures c.in_default.is

pub returns-in-Some-clause-new_owner : goal.returns-in-Some-clause-new_owner
returns-in-Some-clause-new_owner c = ap (option_map (λ (w : Waiter). w.task)) (sym (taken c))

pub returns-in-Some-clause-state : goal.returns-in-Some-clause-state
returns-in-Some-clause-state c =
    handed_state c.args.self.now.state _ _ c.args.mutex c.in-Some.waiter (ap (λ (w : View). w.state) c.unbind_from.ensures.state)
    c.give_to.ensures.state (taken c)

pub returns-in-Some-clause-settled : goal.returns-in-Some-clause-settled
returns-in-Some-clause-settled c =
    c.give_to.ensures.settled c.args.owner (ap (λ (w : View). wait_of w.state c.args.owner) c.unbind_from.ensures.state ∙ c.requires.idle)
    (freed_apart c.args.self.now _ c.args.mutex c.args.owner c.requires.owned c.requires.idle c.unbind_from.ensures.state c.requires.settled)

pub returns-clause-new_owner : goal.returns-clause-new_owner
returns-clause-new_owner c = ap (option_map (λ (w : Waiter). w.task)) (sym (none c))

pub returns-clause-state : goal.returns-clause-state
returns-clause-state c =
    ap (λ (w : View). w.state) c.unbind_from.ensures.state ∙ ap (hand_over_to c.args.self.now.state c.args.mutex) (sym (none c))

pub returns-clause-settled : goal.returns-clause-settled
returns-clause-settled c =
    freed_apart c.args.self.now _ c.args.mutex c.args.owner c.requires.owned c.requires.idle c.unbind_from.ensures.state c.requires.settled

pub returns-clause-work : goal.returns-clause-work
returns-clause-work c = tells-same _ _ _ _ (λ t _ _. ap (λ (w : View). stored_at w t) c.unbind_from.ensures.state)

pub returns-in-Some-clause-stays_settled : goal.returns-in-Some-clause-stays_settled
returns-in-Some-clause-stays_settled c low settled =
    let v = c.args.self.now in
    let u = c.unbind_from.new.self in
    let z = c.give_to.new.self in
    all_but_zero z.state (stored_at z)
    (c.give_to.ensures.settled 0 refl (λ t known _.
    lost_settled v u c.args.owner c.args.mutex c.tasks-tasks.ensures.ready c.unbind_from.ensures.ready c.unbind_from.ensures.state c.requires.owned settled
    (subst (SettledBut u.state (stored_at u)) c.requires.owned (c.unbind_from.ensures.unsettles settled))
    (rw c.unbind_from.ensures.state low) t known (none-some t)))

pub returns-clause-stays_settled : goal.returns-clause-stays_settled
returns-clause-stays_settled c low settled =
    let v = c.args.self.now in
    let u = c.unbind_from.new.self in
    lost_settled v u c.args.owner c.args.mutex c.tasks-tasks.ensures.ready c.unbind_from.ensures.ready c.unbind_from.ensures.state c.requires.owned settled
    (subst (SettledBut u.state (stored_at u)) c.requires.owned (c.unbind_from.ensures.unsettles settled))
    (rw c.unbind_from.ensures.state low)

pub returns-in-Some-clause-owns_no_more : goal.returns-in-Some-clause-owns_no_more
returns-in-Some-clause-owns_no_more c =
    lost_owner _ _ c.args.mutex c.args.owner c.in-Some.waiter.task c.give_to.ensures.state
    (idle_is_other c.args.self.now.state c.in-Some.waiter.task c.args.owner _
    (first_waits c.tasks-tasks.ensures.ready (owned_mutex _ _ _ c.tasks-tasks.ensures.ready.sound.lists c.requires.owned) (sym c.known_first-first.ensures ∙ c.in-Some.is)) c.requires.idle)

pub returns-clause-owns_no_more : goal.returns-clause-owns_no_more
returns-clause-owns_no_more c e =
    none-some c.args.owner (sym (ap (λ (w : View). owner_of w.state c.args.mutex) c.unbind_from.ensures.state ∙ freed_owner c.args.self.now.state c.args.mutex) ∙ e)

pub returns-in-Some-clause-counted : goal.returns-in-Some-clause-counted
returns-in-Some-clause-counted c =
    c.give_to.ensures.counted
    ∙ ap (λ (w : View). c.args.visits.now.count + new_owner_visits w c.give_to.new.self c.args.mutex) c.unbind_from.ensures.state

pub returns-clause-counted : goal.returns-clause-counted
returns-clause-counted c =
    let none = new_owner_visits-none c.args.self.now c.unbind_from.new.self c.args.mutex
    (ap (λ (w : View). owner_of w.state c.args.mutex) c.unbind_from.ensures.state ∙ freed_owner c.args.self.now.state c.args.mutex) in
    omega (arith, none)

pub returns-in-Some-clause-work : goal.returns-in-Some-clause-work
returns-in-Some-clause-work c =
    subst (λ (w : View). Tells (length w.state.base) (stored_at w) c.args.visits.now (stored_at c.give_to.new.self) c.give_to.new.visits)
    c.unbind_from.ensures.state c.give_to.ensures.work
