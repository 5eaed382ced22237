use Rattle.std.proofs.Common.{◌≡◌, ℕ, ◌+◌, false, is_some, Some, refl, sym, ◌∙◌, ap, arith, length}
use Rattle.pim_base.specs.Lists.{put}
use Rattle.pim_base.specs.State.{State, owner_of, queued, wait_of, with_wait}
use Rattle.pim_base.specs.Chains.{leads_back}
use Rattle.pim_base.specs.declared.steps.Wait.{Wait}
use Rattle.pim_base.proofs.Steady.{steady_kept}
use Rattle.pim_chain.specs.Views.{View}
use Rattle.pim_manager.proofs.Requests.{owned_leads_back}
use Rattle.pim_manager.proofs.Works.{Walked, walked_by}
use Rattle.pim_manager.proofs.manager.Manager.answer_lock.Goals as goal
use Rattle.pim_manager.proofs.manager.Manager.answer_lock.Goals.{After-put_next_ticket}

pub returns-then-known_relocks-clause-work : goal.returns-then-known_relocks-clause-work
returns-then-known_relocks-clause-work c = c.answer_relock.ensures.work c.args.visits.now

pub known_on_chain-requires : goal.known_on_chain-requires
known_on_chain-requires c =
    c.self.invariant.calm.ready.waits.owners c.args.mutex c.in-Some.owner (sym c.known_owner.ensures ∙ c.in-Some.is)

pub enqueue-requires-clause-fresh : goal.enqueue-requires-clause-fresh
enqueue-requires-clause-fresh c u e =
    let new : Wait = record { mutex = c.args.mutex; ticket = c.next_ticket-ticket.result } in
    let given =
    c.self.invariant.steady.tickets.given u new
    (sym (ap (λ (w : View). wait_of w.state u) c.put_next_ticket.ensures.state) ∙ e) in
    omega (arith, given, c.next_ticket-ticket.ensures)

-- the chain of the owner doesn't lead back to the actor
closes_none : (c : After-put_next_ticket) → leads_back c.self.inside.tables.state c.args.actor c.args.mutex ≡ false
closes_none c =
    owned_leads_back c.self.inside.tables.state c.args.actor c.args.mutex c.in-Some.owner
    (sym c.known_owner.ensures ∙ c.in-Some.is)
    ∙ sym c.known_on_chain.ensures ∙ c.if-known_on_chain.false

pub enqueue-requires-clause-closes_none : goal.enqueue-requires-clause-closes_none
enqueue-requires-clause-closes_none c =
    ap (λ (w : View). leads_back w.state c.args.actor c.args.mutex) c.put_next_ticket.ensures.state
    ∙ closes_none (goal.at.enqueue-requires-clause-closes_none c).After-put_next_ticket

pub enqueue-requires-clause-settled : goal.enqueue-requires-clause-settled
enqueue-requires-clause-settled c = c.put_next_ticket.ensures.unsettles c.self.invariant.calm.settled

-- the state once the actor has joined the queue
shown :
    (c : goal.After-enqueue)
    → c.enqueue.new.self.state ≡ queued c.self.inside.tables.state c.args.actor c.args.mutex
shown c =
    let S : State = c.self.inside.tables.state in
    let wait : ℕ → Wait = λ n. record { mutex = c.args.mutex; ticket = n } in
    c.enqueue.ensures.state
    ∙ ap (λ (w : View). with_wait w.state c.args.actor (Some (wait c.next_ticket-ticket.result)))
    c.put_next_ticket.ensures.state
    ∙ ap (λ n. record S { wait = put S.wait c.args.actor (Some (wait n)); next = n + 1 }) c.next_ticket-ticket.ensures

enqueued :
    (c : goal.After-enqueue)
    → Walked c.args.self.now c.put_next_ticket.new.self c.enqueue.new.self c.args.visits.now c.enqueue.new.visits
enqueued c =
    let owned = sym c.known_owner.ensures ∙ c.in-Some.is in
    let back =
    ap (λ (U : State). leads_back U c.args.actor c.args.mutex) (sym c.self.view_is)
    ∙ closes_none (goal.at.invariant_of-self c).After-put_next_ticket in
    walked_by (λ (U : State). queued U c.args.actor c.args.mutex) c.self.invariant c.self.view_is
    (λ ok. steady_kept.enqueue _ c.args.actor c.args.mutex ok c.requires.known c.requires.idle back
    (ap is_some (ap (λ (U : State). owner_of U c.args.mutex) (sym c.self.view_is) ∙ owned)))
    refl (ap (λ (w : View). w.stored) c.put_next_ticket.ensures.state)
    (ap (λ (w : View). length w.state.base) c.put_next_ticket.ensures.state)
    (shown c) c.enqueue.ensures.settled c.enqueue.ensures.ready c.enqueue.ensures.work

pub invariant_of-self : goal.invariant_of-self
invariant_of-self c = (enqueued c).settled

pub returns-clause-state : goal.returns-clause-state
returns-clause-state c = shown c ∙ ap (λ (U : State). queued U c.args.actor c.args.mutex) c.self.view_is

pub returns-clause-work : goal.returns-clause-work
returns-clause-work c = (enqueued c).work

pub returns-clause-most : goal.returns-clause-most
returns-clause-most c = let most = c.enqueue.ensures.at_most in omega (arith, most, (enqueued c).count)
