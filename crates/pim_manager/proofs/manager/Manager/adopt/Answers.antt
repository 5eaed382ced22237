use Rattle.std.proofs.Common.{◌≡◌, ℕ, false, is_some, Option, Some, None, refl, sym, ◌∙◌, ap, subst}
use Rattle.pim_base.specs.Priorities.{effective_priority, ceiling}
use Rattle.pim_base.specs.Queues.{queue_of}
use Rattle.pim_base.specs.State.{State, owner_of}
use Rattle.pim_base.specs.Steady.{IsSteady}
use Rattle.pim_chain.specs.Adopted.{is_protect}
use Rattle.pim_chain.specs.Views.{View}
use Rattle.pim_chain.proofs.Adopted.{effective_priority-same, queue_of-same}
use Rattle.pim_manager.proofs.Adopting.{free_unawaited, steady_adopted}
use Rattle.pim_manager.proofs.manager.Manager.adopt.Goals as goal
use Rattle.pim_manager.proofs.manager.Manager.adopt.Goals.{After-adopt}

none_from : (o : Option ℕ) → is_some o ≡ false → o ≡ None
none_from None e = refl
none_from (Some t) e = cc

-- the mutex is free, and gives no ceiling
free : (c : After-adopt) → owner_of c.self.inside.tables.state c.args.mutex ≡ None
free c = sym c.known_owner-owner.ensures ∙ none_from c.known_owner-owner.result (sym c.is_some-2.ensures ∙ c.if-is_some-2.false)

plain : (c : After-adopt) → is_protect c.self.inside.tables.state c.args.mutex ≡ false
plain c =
    ap (λ p. is_some (ceiling p)) (sym c.known_protocol.ensures) ∙ ap is_some (sym c.ceiling.ensures)
    ∙ sym c.is_some.ensures ∙ c.if-is_some.false

pub invariant_of-self : goal.invariant_of-self
invariant_of-self c =
    let S : State = c.self.inside.tables.state in
    record {
      calm = record { ready = c.adopt.ensures.ready; settled = c.adopt.ensures.unsettles c.self.invariant.calm.settled };
      steady =
          subst (λ (v : View). IsSteady v.state) (sym c.adopt.ensures.state)
          (steady_adopted S c.args.mutex c.args.task (free c) c.self.invariant.steady);
    }

pub returns-clause-priorities : goal.returns-clause-priorities
returns-clause-priorities c t =
    let S : State = c.self.inside.tables.state in
    ap (λ (v : View). effective_priority v.state t) c.adopt.ensures.state
    ∙ effective_priority-same S c.args.mutex c.args.task (free_unawaited S c.args.mutex (free c) c.self.invariant.steady.owned)
    (free c) (plain c) t
    ∙ ap (λ (U : State). effective_priority U t) c.self.view_is

pub returns-clause-queues : goal.returns-clause-queues
returns-clause-queues c m =
    let S : State = c.self.inside.tables.state in
    ap (λ (v : View). queue_of v.state m) c.adopt.ensures.state
    ∙ queue_of-same S c.args.mutex c.args.task (free_unawaited S c.args.mutex (free c) c.self.invariant.steady.owned)
    (free c) (plain c) m
    ∙ ap (λ (U : State). queue_of U m) c.self.view_is
