use Rattle.pim_world.specs.Held.{world_of}
use Rattle.pim_rows.specs.Kept.{kept_of}
use Rattle.pim_rows.proofs.Running.{text_lasting}
use Rattle.pim_rows.proofs.runs.Runs.put_lasting.Goals as goal

pub returns : goal.returns
returns c ms w levels are =
    text_lasting ms (kept_of c.args.self.now.starts)
    (world_of c.args.world.now) c.args.threads.now c.clock.result _ _
    w levels are c.clock.ensures c.in_ok-put_all_lasting.ensures
