use Rattle.std.proofs.Common.{◌≡◌, Some, subst, sym, ◌∙◌, ap}
use Rattle.std.specs.List.{find}
use Rattle.pim_queue.specs.QueueView.{QueueView}
use Rattle.pim_queue.specs.Waiters.{is_of, repositioned}
use Rattle.pim_chain.proofs.Rooms.{queue_here, put_here, roomy_here}
use Rattle.pim_chain.proofs.queues.Queues.reposition.Goals as goal

pub reposition_waiter-requires : goal.reposition_waiter-requires
reposition_waiter-requires c =
    subst (λ ws. find (is_of c.args.waiter.now.task) ws ≡ Some c.args.waiter.now)
    (queue_here c.args.self.now c.self.inside.room c.args.mutex c.get.result c.self.inside.queues.items c.index_mut.result.now c.self.view_is c.requires.least c.requires.most c.get.ensures c.index_mut.ensures.value)
    c.requires.waits

pub invariant_of-self : goal.invariant_of-self
invariant_of-self c =
    roomy_here c.args.self.now c.self.inside.room c.args.mutex c.get.result c.self.inside.queues.items c.index_mut.result.now c.reposition_waiter.new.self
    c.self.view_is c.requires.least c.requires.most c.get.ensures c.index_mut.ensures.value
    (ap (λ (q : QueueView). q.room) c.reposition_waiter.ensures) c.self.invariant

pub returns : goal.returns
returns c =
    put_here c.args.self.now c.self.inside.room c.args.mutex c.get.result c.self.inside.queues.items c.reposition_waiter.new.self _ c.self.view_is c.requires.least c.requires.most c.get.ensures
    (ap (λ (q : QueueView). q.waiters) c.reposition_waiter.ensures
    ∙ ap (λ ws. repositioned c.args.waiter.now.task c.args.prio ws)
    (sym (queue_here c.args.self.now c.self.inside.room c.args.mutex c.get.result c.self.inside.queues.items c.index_mut.result.now c.self.view_is c.requires.least c.requires.most c.get.ensures c.index_mut.ensures.value)))
