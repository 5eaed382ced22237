use Rattle.std.proofs.Common.{◌≡◌, false, not, is_some, Some, None, refl, sym, ◌∙◌, ap, subst}
use Rattle.pim_base.specs.Priorities.{ceiling}
use Rattle.pim_base.specs.State.{State, owner_of, with_owner}
use Rattle.pim_base.specs.Steady.{IsSteady}
use Rattle.pim_base.proofs.Steady.{steady_kept}
use Rattle.pim_chain.specs.Adopted.{is_protect}
use Rattle.pim_chain.specs.Views.{View}
use Rattle.pim_manager.proofs.Adopting.{free_unawaited, steady_adopted, worked_adopted}
use Rattle.pim_manager.proofs.Works.{Walked, walked_by}
use Rattle.pim_manager.proofs.manager.Manager.answer_free.Goals as goal

granted :
    (c : goal.After-grant)
    → Walked c.args.self.now c.self.inside.tables c.grant.new.self c.args.visits.now c.grant.new.visits
granted c =
    walked_by (λ (U : State). with_owner U c.args.mutex (Some c.args.actor)) c.self.invariant c.self.view_is
    (λ ok. steady_kept.grant _ c.args.actor c.args.mutex ok c.requires.idle)
    refl refl refl c.grant.ensures.state c.grant.ensures.settled c.grant.ensures.ready c.grant.ensures.work

-- the mutex is free, and gives no ceiling
free : (c : goal.After-adopt) → owner_of c.self.inside.tables.state c.args.mutex ≡ None
free c = ap (λ (U : State). owner_of U c.args.mutex) c.self.view_is ∙ c.requires.free

plain : (c : goal.After-adopt) → is_protect c.self.inside.tables.state c.args.mutex ≡ false
plain c =
    ap (λ p. is_some (ceiling p)) (sym c.known_protocol.ensures) ∙ ap is_some (sym c.ceiling.ensures)
    ∙ c.is_none.ensures ∙ ap not c.if-is_none.true

pub invariant_of-self : goal.invariant_of-self
invariant_of-self c =
    let S : State = c.self.inside.tables.state in
    record {
      calm = record { ready = c.adopt.ensures.ready; settled = c.adopt.ensures.unsettles c.self.invariant.calm.settled };
      steady =
          subst (λ (v : View). IsSteady v.state) (sym c.adopt.ensures.state)
          (steady_adopted S c.args.mutex c.args.actor (free c) c.self.invariant.steady);
    }

pub returns-then-is_none-clause-work : goal.returns-then-is_none-clause-work
returns-then-is_none-clause-work c =
    worked_adopted c.args.mutex c.args.actor c.adopt.ensures.state c.self.view_is (free c) (plain c)
    (free_unawaited c.self.inside.tables.state c.args.mutex (free c) c.self.invariant.steady.owned) c.args.visits.now

pub invariant_of-self-2 : goal.invariant_of-self-2
invariant_of-self-2 c = (granted c).settled

pub returns-clause-work : goal.returns-clause-work
returns-clause-work c = (granted c).work
