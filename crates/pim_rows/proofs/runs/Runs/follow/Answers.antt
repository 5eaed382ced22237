use Rattle.pim_world.specs.Held.{world_of}
use Rattle.pim_rows.specs.Kept.{kept_of}
use Rattle.pim_rows.proofs.Running.{text_followed, kept_followed}
use Rattle.pim_rows.proofs.runs.Runs.follow.Goals as goal

pub returns-clause-text : goal.returns-clause-text
returns-clause-text c ms l ts w line changes are =
    text_followed ms l (world_of c.args.world.now) c.args.line
    (kept_of c.args.self.now.starts) (kept_of c.args.self.now.starts) ts
    c.args.changes.now
    w line changes are c.clock.result _ _ c.clock.ensures c.in_ok-put_all_ended.ensures

pub returns-clause-kept : goal.returns-clause-kept
returns-clause-kept c ms l ts w line changes are =
    kept_followed ms l (world_of c.args.world.now) c.args.line
    (kept_of c.args.self.now.starts) (kept_of c.begin_all.new.self.starts) ts
    c.args.changes.now w line changes are c.in_ok-begin_all.ensures
