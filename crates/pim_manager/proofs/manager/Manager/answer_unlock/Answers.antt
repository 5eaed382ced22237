use Rattle.std.proofs.Common.{◌≡◌, sym, ◌∙◌, subst, ap, arith, length, refl, Some}
use Rattle.pim_base.specs.State.{State, owner_of, wait_of}
use Rattle.pim_base.specs.Steady.{IsSteady}
use Rattle.pim_base.specs.Steps.{hand_over}
use Rattle.pim_base.proofs.HandOvers.{base-hand_over}
use Rattle.pim_base.proofs.Steady.{steady_kept}
use Rattle.pim_base.proofs.Stored.{from_holds}
use Rattle.pim_chain.specs.Views.{View}
use Rattle.pim_chain.proofs.Known.{owned_mutex}
use Rattle.pim_manager.proofs.Releases.{handed_once}
use Rattle.pim_manager.proofs.Works.{Walked, walked_by, worked_count}
use Rattle.pim_manager.proofs.manager.Manager.answer_unlock.Goals as goal
use Rattle.pim_manager.proofs.manager.Manager.answer_unlock.Goals.{After-hand_over}

pub invariant_of-self : goal.invariant_of-self
invariant_of-self c = record {
  calm = record {
    ready = c.count_down.ensures.ready;
    settled = c.count_down.ensures.unsettles c.self.invariant.calm.settled;
  };
  steady =
      subst (λ (w : View). IsSteady w.state) (sym c.count_down.ensures.state)
      (steady_kept.keep _ c.args.mutex c.self.invariant.steady (sym c.known_kept.ensures ∙ c.if-known_kept.true));
}

pub returns-then-known_kept-clause-work : goal.returns-then-known_kept-clause-work
returns-then-known_kept-clause-work c = worked_count _ _ c.count_down.ensures.state c.self.view_is c.args.visits.now

-- the mutex is handed over
handed_over :
    (c : After-hand_over)
    → Walked c.args.self.now c.self.inside.tables c.hand_over.new.self c.args.visits.now c.hand_over.new.visits
handed_over c =
    walked_by (λ (U : State). hand_over U c.args.mutex) c.self.invariant c.self.view_is
    (steady_kept.hand _ c.args.mutex) (ap length (base-hand_over c.self.inside.tables.state c.args.mutex)) refl refl
    c.hand_over.ensures.state c.hand_over.ensures.settled c.hand_over.ensures.ready c.hand_over.ensures.work

pub invariant_of-self-2 : goal.invariant_of-self-2
invariant_of-self-2 c = (handed_over (goal.at.invariant_of-self-2 c).After-hand_over).settled

pub returns-clause-work : goal.returns-clause-work
returns-clause-work c = (handed_over (goal.at.returns-clause-work c).After-hand_over).work

pub returns-clause-most : goal.returns-clause-most
returns-clause-most c =
    let v = c.self.inside.tables in
    let owned : owner_of v.state c.args.mutex ≡ Some c.args.actor =
    from_holds _ c.args.actor (sym c.known_owns.ensures ∙ c.if-not-known_owns.false) in
    let handed =
    handed_once v.state _ c.args.mutex c.args.actor c.hand_over.ensures.state c.self.invariant.steady
    (owned_mutex v.state c.args.mutex c.args.actor c.self.invariant.calm.ready.sound.lists owned) owned
    (ap (λ (S : State). wait_of S c.args.actor) c.self.view_is ∙ c.requires.idle) in
    let most = c.hand_over.ensures.most in
    rw (← c.self.view_is) (omega (arith, handed, most, c.requires.fresh))
