use Rattle.std.proofs.Common.{◌∙◌, ap, Some}
use Rattle.pim_base.specs.State.{State}
use Rattle.pim_base.specs.Queues.{queue_of}
use Rattle.pim_manager.specs.Known.{of_mutex}
use Rattle.pim_manager.proofs.Shown.{queue_shown, queue_in_order}
use Rattle.pim_manager.proofs.manager.Manager.waiters.Goals as goal

pub returns-in-Some : goal.returns-in-Some
returns-in-Some c =
    let queue =
    ap Some c.as_slice.ensures.waiters
    ∙ c.in-Some.ensures
    ∙ queue_shown c.self.inside.tables c.args.mutex c.self.invariant.calm
    ∙ ap (λ (S : State). of_mutex S c.args.mutex (queue_of S c.args.mutex)) c.self.view_is in
    let in_order =
    queue_in_order c.self.inside.tables c.args.self.now c.args.mutex _ c.self.invariant c.self.view_is queue in
    record { queue = queue; in_order = in_order }
