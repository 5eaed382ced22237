use Rattle.std.proofs.Common.{◌≡◌, false, not, None, refl, sym, ◌∙◌, ap, subst, arith, length}
use Rattle.std.specs.Prelude.{is_none}
use Rattle.pim_base.specs.Checks.{not_protect}
use Rattle.pim_base.specs.Priorities.{ceiling}
use Rattle.pim_base.specs.State.{State, owner_of, with_ceiling}
use Rattle.pim_base.proofs.Steady.{steady_kept}
use Rattle.pim_chain.specs.Views.{View, stored_at}
use Rattle.pim_chain.specs.Settled.{SettledBut}
use Rattle.pim_chain.proofs.Told.{tells-refl}
use Rattle.pim_manager.proofs.Works.{Walked, walked_by}
use Rattle.pim_manager.proofs.manager.Manager.answer_set_ceiling.Goals as goal
use Rattle.pim_manager.proofs.manager.Manager.answer_set_ceiling.Goals.{After-put_ceiling, In_default-owner}

-- the mutex has a ceiling
protect : (c : After-put_ceiling) → not_protect c.args.self.now c.args.mutex ≡ false
protect c =
    ap (λ (U : State). not_protect U c.args.mutex) (sym c.self.view_is)
    ∙ ap (λ p. is_none (ceiling p)) (sym c.known_protocol.ensures) ∙ ap is_none (sym c.ceiling.ensures)
    ∙ ap not (c.is_none.ensures ∙ ap not c.if-is_none.false)

-- the owner has the priority that it has then
given :
    (c : goal.After-settle_from)
    → Walked c.args.self.now c.put_ceiling.new.self c.settle_from.new.self c.args.visits.now c.settle_from.new.visits
given c =
    walked_by (λ (U : State). with_ceiling U c.args.mutex c.in-Some.ceiling) c.self.invariant c.self.view_is
    (λ ok. steady_kept.set_ceiling _ c.args.mutex c.in-Some.ceiling ok
    (protect (goal.at.invariant_of-self-2 c).After-put_ceiling))
    refl (ap (λ (w : View). w.stored) c.put_ceiling.ensures.state)
    (ap (λ (w : View). length w.state.base) c.put_ceiling.ensures.state)
    (c.settle_from.ensures.state ∙ ap (λ (w : View). w.state) c.put_ceiling.ensures.state)
    c.settle_from.ensures.settled c.settle_from.ensures.ready c.settle_from.ensures.work

pub invariant_of-self-2 : goal.invariant_of-self-2
invariant_of-self-2 c = (given c).settled

pub returns-clause-work : goal.returns-clause-work
returns-clause-work c = (given c).work

pub returns-clause-most : goal.returns-clause-most
returns-clause-most c = let most = c.settle_from.ensures.at_most in omega (arith, most, (given c).count)

-- a free mutex gives no priority, whatever its ceiling
free :
    (c : In_default-owner)
    → Walked c.args.self.now c.put_ceiling.new.self c.put_ceiling.new.self c.args.visits.now c.args.visits.now
free c =
    let w : View = c.put_ceiling.new.self in
    let none : owner_of c.self.inside.tables.state c.args.mutex ≡ None =
    sym c.known_owner-owner.ensures ∙ c.in_default-owner.is in
    walked_by (λ (U : State). with_ceiling U c.args.mutex c.in-Some.ceiling) c.self.invariant c.self.view_is
    (λ ok. steady_kept.set_ceiling _ c.args.mutex c.in-Some.ceiling ok
    (protect (goal.at.invariant_of-self c).After-put_ceiling))
    refl (ap (λ (y : View). y.stored) c.put_ceiling.ensures.state)
    (ap (λ (y : View). length y.state.base) c.put_ceiling.ensures.state)
    (ap (λ (y : View). y.state) c.put_ceiling.ensures.state)
    (subst (SettledBut w.state (stored_at w)) none (c.put_ceiling.ensures.unsettles c.self.invariant.calm.settled))
    c.put_ceiling.ensures.ready (tells-refl (length w.state.base) (stored_at w) _)

pub invariant_of-self : goal.invariant_of-self
invariant_of-self c = (free c).settled

pub returns-in_default-owner-clause-work : goal.returns-in_default-owner-clause-work
returns-in_default-owner-clause-work c = (free c).work
