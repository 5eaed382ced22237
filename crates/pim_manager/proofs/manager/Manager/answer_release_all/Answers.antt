use Rattle.std.proofs.Common.{◌≤◌, length, fold, refl, ap, subst, arith, sym, ◌∙◌}
use Rattle.pim_base.specs.State.{State, owned}
use Rattle.pim_base.specs.Counts.{handed_mutex_count}
use Rattle.pim_base.specs.Steps.{hand_over}
use Rattle.pim_manager.proofs.Works.{Walked, walked_by, steady_shown}
use Rattle.pim_manager.proofs.Releases.{AllReleased, all_released, released-handed}
use Rattle.pim_manager.proofs.manager.Manager.answer_release_all.Goals as goal

all : (c : goal.After-release_all) → AllReleased c.args.self.now c.release_all.new.self.state c.args.actor
all c =
    let S : State = c.args.self.now in
    subst (λ T. AllReleased S T c.args.actor)
    (sym (c.release_all.ensures.state ∙ ap (λ (U : State). fold hand_over U (owned U c.args.actor)) c.self.view_is))
    (all_released S c.args.actor (owned S c.args.actor) refl c.requires.idle
    (steady_shown c.self.invariant c.self.view_is))

-- all that the actor owned is released
released :
    (c : goal.After-release_all)
    → Walked c.args.self.now c.self.inside.tables c.release_all.new.self c.args.visits.now c.release_all.new.visits
released c =
    walked_by (λ _. c.release_all.new.self.state) c.self.invariant c.self.view_is (λ _. (all c).steady)
    (ap length ((all c).bases ∙ sym (ap (λ (U : State). U.base) c.self.view_is))) refl refl refl
    c.release_all.ensures.settled c.release_all.ensures.ready c.release_all.ensures.work

-- each mutex that is released has another owner then
handed :
    (c : goal.After-release_all)
    → c.release_all.result ≤ handed_mutex_count c.args.self.now c.release_all.new.self.state
handed c =
    let few = released-handed c.args.self.now c.release_all.new.self.state c.args.actor (all c) in
    subst (λ k. k ≤ handed_mutex_count c.args.self.now c.release_all.new.self.state)
    (sym (c.release_all.ensures.released ∙ ap (λ (U : State). length (owned U c.args.actor)) c.self.view_is)) few

pub invariant_of-self : goal.invariant_of-self
invariant_of-self c = (released c).settled

pub returns-clause-work : goal.returns-clause-work
returns-clause-work c = (released c).work

pub returns-clause-most : goal.returns-clause-most
returns-clause-most c = let most = c.release_all.ensures.most in omega (arith, most, handed c, c.requires.fresh)

pub returns-clause-twice : goal.returns-clause-twice
returns-clause-twice c = let twice = c.release_all.ensures.twice in omega (arith, twice, handed c, c.requires.fresh)
