use Rattle.std.proofs.Common.{sym, ap, subst, arith}
use Rattle.pim_base.specs.Lists.{contains}
use Rattle.pim_waits.specs.Around.{Around}
use Rattle.pim_waits.specs.Touched.{Touches}
use Rattle.pim_waits.specs.Members.{Members}
use Rattle.pim_base.specs.State.{IsTask}
use Rattle.pim_waits.proofs.Changing.{around_wait}
use Rattle.pim_waits.proofs.Settling.{touches, ends_extended}
use Rattle.pim_waits.proofs.waits.Waits.put_awaited.Goals as goal

around :
    (c : goal.After-settle)
    → Around c.self.inside.facts c.put_awaited.new.self (contains c.gather.new.component.threads)
around c =
    let S = c.self.inside.facts in
    let members = c.gather.new.component in
    subst (λ T. Around S T (contains members.threads)) (sym c.in_ok-put_awaited.ensures.ok)
    (around_wait S c.args.thread c.args.mutex c.self.invariant.whole.lists
    (subst (λ T. IsTask T c.args.thread) (sym c.self.view_is) c.requires.thread)
    members.threads c.in_ok-gather.ensures.closed
    (ends_extended S c.args.thread c.args.mutex c.add_ends.new.component
    members c.in_ok-gather.ensures.extends c.in_ok-add_ends.ensures.ends))

pub invariant_of-self-2 : goal.invariant_of-self-2
invariant_of-self-2 c = record {
  whole = c.settle.ensures.whole;
  len = omega (arith, c.settle.ensures.len, c.self.invariant.len, (around c).tasks);
  flows = c.settle.ensures.flows c.self.inside.facts (around c) c.self.invariant.flows;
  room =
      omega (
        arith,
        c.in_ok-gather.ensures.room,
        c.in_ok-add_ends.ensures.room,
        ap (λ (m : Members).
            m.room) c.in_ok-start.ensures.ok,
        c.threads.ensures.count,
        (around c).tasks,
      );
}

pub returns-clause-touched : goal.returns-clause-touched
returns-clause-touched c =
    subst (λ S. Touches
    S c.put_awaited.new.self c.args.touched.now.items c.gather.new.touched.items) c.self.view_is
    (touches c.self.inside.facts c.put_awaited.new.self c.gather.new.component.threads
    c.args.touched.now.items c.gather.new.touched.items (around c)
    c.in_ok-gather.ensures.appended)
