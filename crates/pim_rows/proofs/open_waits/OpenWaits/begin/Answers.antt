use Rattle.std.proofs.Common.{◌∙◌, sym, Some}
use Rattle.pim_world.specs.Held.{world_of}
use Rattle.pim_rows.proofs.Opening.{begun_in, same_but}
use Rattle.pim_rows.proofs.open_waits.OpenWaits.begin.Goals as goal

pub returns-clause-here : goal.returns-clause-here
returns-clause-here c =
    begun_in (world_of c.args.world.now)
    c.grow.new.self.opens.items c.args.thread c.thread.inside.0 c.new-open.result
    c.thread.view_is c.requires c.in_ok-grow.ensures.len
    (rw (sym c.of.ensures) (rw (sym c.clock.ensures) c.new-open.ensures))

pub returns-clause-others : goal.returns-clause-others
returns-clause-others c n ne =
    same_but c.grow.new.self.opens.items c.args.thread c.thread.inside.0 n
    (Some c.new-open.result) c.thread.view_is c.requires ne
    ∙ c.in_ok-grow.ensures.same n
