use Rattle.std.proofs.Common.{◌≡◌, false, subst, sym, ◌∙◌, ap}
use Rattle.std.specs.List.{list_any}
use Rattle.pim_base.specs.Lists.{insert_by}
use Rattle.pim_base.specs.Queues.{precedes}
use Rattle.pim_queue.specs.QueueView.{QueueView}
use Rattle.pim_queue.specs.Waiters.{is_of, has_ticket}
use Rattle.pim_chain.proofs.Rooms.{queue_here, put_here, roomy_here, roomy_for, roomy_same}
use Rattle.pim_chain.proofs.queues.Queues.insert.Goals as goal

pub insert-requires-clause-task : goal.insert-requires-clause-task
insert-requires-clause-task c =
    subst (λ ws. list_any (is_of c.args.waiter.task) ws ≡ false)
    (queue_here c.args.self.now c.self.inside.room c.args.mutex c.get.result c.self.inside.queues.items c.index_mut.result.now c.self.view_is c.requires.least c.requires.most c.get.ensures c.index_mut.ensures.value)
    c.requires.task

pub insert-requires-clause-ticket : goal.insert-requires-clause-ticket
insert-requires-clause-ticket c =
    subst (λ ws. list_any (has_ticket c.args.waiter.ticket) ws ≡ false)
    (queue_here c.args.self.now c.self.inside.room c.args.mutex c.get.result c.self.inside.queues.items c.index_mut.result.now c.self.view_is c.requires.least c.requires.most c.get.ensures c.index_mut.ensures.value)
    c.requires.ticket

pub invariant_of-self : goal.invariant_of-self
invariant_of-self c =
    roomy_here c.args.self.now c.self.inside.room c.args.mutex c.get.result c.self.inside.queues.items c.index_mut.result.now c.insert.new.self
    c.self.view_is c.requires.least c.requires.most c.get.ensures c.index_mut.ensures.value
    (ap (λ (q : QueueView). q.room) c.insert.ensures) c.self.invariant

pub returns-then-has_room : goal.returns-then-has_room
returns-then-has_room c =
    put_here c.args.self.now c.self.inside.room c.args.mutex c.get.result c.self.inside.queues.items c.insert.new.self _ c.self.view_is c.requires.least c.requires.most c.get.ensures
    (ap (λ (q : QueueView). q.waiters) c.insert.ensures
    ∙ ap (λ ws. insert_by precedes ws c.args.waiter)
    (sym (queue_here c.args.self.now c.self.inside.room c.args.mutex c.get.result c.self.inside.queues.items c.index_mut.result.now c.self.view_is c.requires.least c.requires.most c.get.ensures c.index_mut.ensures.value)))

pub make_room-requires-clause-roomy : goal.make_room-requires-clause-roomy
make_room-requires-clause-roomy c =
    roomy_for c.args.self.now c.self.inside.room c.args.mutex c.self.inside.queues.items
    c.self.view_is c.requires.least c.requires.most c.requires.room c.self.invariant

pub insert-requires-2-clause-task : goal.insert-requires-2-clause-task
insert-requires-2-clause-task c =
    subst (λ ws. list_any (is_of c.args.waiter.task) ws ≡ false)
    (queue_here c.args.self.now c.self.inside.room c.args.mutex c.get.result c.make_room.new.queues.items c.index_mut-2.result.now (c.make_room.ensures.waiters c.self.inside.room ∙ c.self.view_is) c.requires.least c.requires.most c.get.ensures c.index_mut-2.ensures.value)
    c.requires.task

pub insert-requires-2-clause-ticket : goal.insert-requires-2-clause-ticket
insert-requires-2-clause-ticket c =
    subst (λ ws. list_any (has_ticket c.args.waiter.ticket) ws ≡ false)
    (queue_here c.args.self.now c.self.inside.room c.args.mutex c.get.result c.make_room.new.queues.items c.index_mut-2.result.now (c.make_room.ensures.waiters c.self.inside.room ∙ c.self.view_is) c.requires.least c.requires.most c.get.ensures c.index_mut-2.ensures.value)
    c.requires.ticket

pub invariant_of-self-2 : goal.invariant_of-self-2
invariant_of-self-2 c =
    roomy_here c.args.self.now c.self.inside.room c.args.mutex c.get.result c.make_room.new.queues.items c.index_mut-2.result.now c.insert-2.new.self
    (c.make_room.ensures.waiters c.self.inside.room ∙ c.self.view_is) c.requires.least c.requires.most c.get.ensures c.index_mut-2.ensures.value
    (ap (λ (q : QueueView). q.room) c.insert-2.ensures)
    (roomy_same c.self.inside.room c.self.inside.queues.items c.make_room.new.queues.items
    c.make_room.ensures.rooms c.make_room.ensures.len c.self.invariant)

pub returns : goal.returns
returns c =
    put_here c.args.self.now c.self.inside.room c.args.mutex c.get.result c.make_room.new.queues.items c.insert-2.new.self _ (c.make_room.ensures.waiters c.self.inside.room ∙ c.self.view_is) c.requires.least c.requires.most c.get.ensures
    (ap (λ (q : QueueView). q.waiters) c.insert-2.ensures
    ∙ ap (λ ws. insert_by precedes ws c.args.waiter)
    (sym (queue_here c.args.self.now c.self.inside.room c.args.mutex c.get.result c.make_room.new.queues.items c.index_mut-2.result.now (c.make_room.ensures.waiters c.self.inside.room ∙ c.self.view_is) c.requires.least c.requires.most c.get.ensures c.index_mut-2.ensures.value)))
