use Rattle.std.proofs.Common.{◌≡◌, Bool, false, not, is_some, None, [], ◌∷◌, refl, ap, ap₂, sym, ◌∙◌, arith, rules}
use Rattle.pim_base.specs.State.{State, wait_of, with_wait}
use Rattle.pim_base.specs.Checks.{unknown_task, is_waiting}
use Rattle.pim_base.specs.Steps.{unless}
use Rattle.pim_base.specs.declared.steps.Refusal.{Refusal}
use Rattle.pim_base.specs.declared.steps.Reply.{Reply}
use Rattle.pim_base.proofs.Steady.{steady_kept}
use Rattle.pim_manager.proofs.Works.{Walked, walked_by}
use Rattle.pim_manager.proofs.manager.Manager.answer_cancel.Goals as goal

pub returns-in_default-clause-reply : goal.returns-in_default-clause-reply
returns-in_default-clause-reply c =
    let S : State = c.args.self.now in
    let known : unknown_task S c.args.task ≡ false =
    ap (λ (U : State). unknown_task U c.args.task) (sym c.self.view_is)
    ∙ sym c.is_unknown_task.ensures ∙ c.if-is_unknown_task.false in
    let idle : is_waiting S c.args.task ≡ false =
    ap is_some
    (ap (λ (U : State). wait_of U c.args.task) (sym c.self.view_is) ∙ sym c.known_wait.ensures ∙ c.in_default.is) in
    ap₂ (λ (u w : Bool). unless ((u, Refusal.NoTask) ∷ (not w, Refusal.NotWaiting) ∷ []) Reply.Withdrawn)
    (sym known) (sym idle)

pub unreachable-requires : goal.unreachable-requires
unreachable-requires c =
    let waits = sym c.known_wait.ensures ∙ c.in-Some.is in
    let free = ap is_some (sym c.owner.ensures ∙ c.in_default-owner.is) in
    let owned = c.self.invariant.steady.owned c.args.task c.in-Some.wait waits in
    search (rules, free, owned)

withdrawn :
    (c : goal.After-withdraw)
    → Walked c.args.self.now c.self.inside.tables c.withdraw.new.self c.args.visits.now c.withdraw.new.visits
withdrawn c =
    walked_by (λ (U : State). with_wait U c.args.task None) c.self.invariant c.self.view_is
    (steady_kept.withdraw _ c.args.task) refl refl refl
    c.withdraw.ensures.state c.withdraw.ensures.settled c.withdraw.ensures.ready c.withdraw.ensures.work

pub invariant_of-self : goal.invariant_of-self
invariant_of-self c = (withdrawn c).settled

pub returns-clause-state : goal.returns-clause-state
returns-clause-state c = c.withdraw.ensures.state ∙ ap (λ (U : State). with_wait U c.args.task None) c.self.view_is

pub returns-clause-work : goal.returns-clause-work
returns-clause-work c = (withdrawn c).work

pub returns-clause-most : goal.returns-clause-most
returns-clause-most c = let most = c.withdraw.ensures.at_most in omega (arith, most, (withdrawn c).count)
