use Rattle.std.proofs.Common.{◌∙◌, ap, arith, length}
use Rattle.pim_base.specs.State.{State, with_base}
use Rattle.pim_base.proofs.Places.{length-put}
use Rattle.pim_base.proofs.Steady.{steady_kept}
use Rattle.pim_chain.specs.Views.{View}
use Rattle.pim_manager.proofs.Works.{Walked, walked_by}
use Rattle.pim_manager.proofs.manager.Manager.answer_set_base.Goals as goal

based :
    (c : goal.After-settle_from)
    → Walked c.args.self.now c.put_base.new.self c.settle_from.new.self c.args.visits.now c.settle_from.new.visits
based c =
    let bases = length-put c.self.inside.tables.state.base c.args.task c.in-Some.prio in
    walked_by (λ (U : State). with_base U c.args.task c.in-Some.prio) c.self.invariant c.self.view_is
    (steady_kept.set_base _ c.args.task c.in-Some.prio) bases (ap (λ (w : View). w.stored) c.put_base.ensures.state)
    (ap (λ (w : View). length w.state.base) c.put_base.ensures.state ∙ bases)
    (c.settle_from.ensures.state ∙ ap (λ (w : View). w.state) c.put_base.ensures.state)
    c.settle_from.ensures.settled c.settle_from.ensures.ready c.settle_from.ensures.work

pub invariant_of-self : goal.invariant_of-self
invariant_of-self c = (based c).settled

pub returns-in-Some-clause-work : goal.returns-in-Some-clause-work
returns-in-Some-clause-work c = (based c).work

pub returns-in-Some-clause-most : goal.returns-in-Some-clause-most
returns-in-Some-clause-most c = let most = c.settle_from.ensures.at_most in omega (arith, most, (based c).count)
