use Rattle.std.proofs.Common.{sym, ◌∙◌, ap}
use Rattle.std.specs.Option.{option_map}
use Rattle.pim_base.specs.Lists.{nth}
use Rattle.pim_queue.specs.QueueView.{QueueView}
use Rattle.pim_chain.proofs.Rooms.{nth_shown}
use Rattle.pim_chain.proofs.queues.Queues.get.Goals as goal

pub returns : goal.returns
returns c =
    ap (option_map (λ (q : QueueView). q.waiters)) c.queue_of.ensures
    ∙ ap (λ qs. option_map (λ (q : QueueView). q.waiters) (nth qs c.args.mutex)) c.deref.ensures.value
    ∙ sym (nth_shown c.self.inside.room c.args.mutex c.self.inside.queues.items)
    ∙ ap (λ vs. option_map (λ (q : QueueView). q.waiters) (nth vs c.args.mutex)) c.self.view_is
