use Rattle.pim_base.specs.Lists.{contains}
use Rattle.pim_waits.specs.Flow.{level_at}
use Rattle.pim_waits.proofs.Flowing.{flows_again}
use Rattle.pim_waits.proofs.settle.settle.Goals as goal

pub loop-thread-init : goal.loop-thread-init
loop-thread-init c = record {
  len = c.reset.ensures.len;
  flows = λ before around flows.
      flows_again before c.args.facts.now (contains c.members-members.result.now) around
      (level_at c.args.gets.now.items)
      (level_at c.reset.new.gets.items) flows c.reset.ensures.inside c.reset.ensures.outside;
}
