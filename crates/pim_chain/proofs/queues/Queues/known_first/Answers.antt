use Rattle.std.proofs.Common.{sym, ◌∙◌, ap}
use Rattle.pim_base.specs.Lists.{first_item}
use Rattle.pim_chain.proofs.Rooms.{queue_here}
use Rattle.pim_chain.proofs.queues.Queues.known_first.Goals as goal

pub returns : goal.returns
returns c =
    c.front.ensures
    ∙ ap (λ ws. first_item ws) (sym (queue_here c.args.self.now c.self.inside.room c.args.mutex c.get.result c.self.inside.queues.items c.index.result.now c.self.view_is c.requires.least c.requires.most c.get.ensures c.index.ensures))
