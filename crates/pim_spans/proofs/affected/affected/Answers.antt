use Rattle.std.proofs.Common.{◌∙◌, sym}
use Rattle.pim_world.specs.Held.{world_of, touched_of}
use Rattle.pim_spans.proofs.Unmoved.{unmoved_all, unmoved_but}
use Rattle.pim_spans.proofs.affected.affected.Goals as goal

pub returns-then-affects_all : goal.returns-then-affects_all
returns-then-affects_all c ms is are actor_is touches =
    unmoved_all ms c.args.line.now are (world_of c.args.world.now) _ is
    c.in_ok-put_all_threads.ensures

pub returns : goal.returns
returns c ms is are actor_is touches =
    unmoved_but
    ms c.args.line.now are (world_of c.args.world.now) c.args.thread c.in_ok-threads.threads.items
    (touched_of c.args.world.now) is (sym c.affects_all.ensures ∙ c.if-affects_all.false)
    actor_is touches c.in_ok-threads.ensures
