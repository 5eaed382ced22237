use Rattle.std.proofs.Common.{◌≤◌, sym, ap, subst, arith, length}
use Rattle.pim_base.specs.Lists.{contains}
use Rattle.pim_base.specs.State.{State}
use Rattle.pim_waits.specs.Around.{Around}
use Rattle.pim_waits.specs.Touched.{Touches}
use Rattle.pim_waits.specs.Members.{Members}
use Rattle.pim_waits.proofs.Gathering.{extends-contains}
use Rattle.pim_waits.proofs.Changing.{around_level}
use Rattle.pim_waits.proofs.Settling.{touches}
use Rattle.pim_waits.proofs.waits.Waits.put_level.Goals as goal

around :
    (c : goal.After-settle)
    → Around c.self.inside.facts c.put_level.new.self (contains c.gather.new.component.threads)
around c =
    let S = c.self.inside.facts in
    let members = c.gather.new.component in
    let room : c.args.thread ≤ c.start.new.self.room =
    omega (
      arith,
      c.requires,
      ap (λ (m : Members). m.room) c.in_ok-start.ensures.ok,
      c.threads.ensures.count,
      ap (λ (T : State). length T.base) c.self.view_is,
    ) in
    subst (λ T. Around S T (contains members.threads)) (sym c.put_level.ensures)
    (around_level S c.args.thread c.args.level members.threads c.in_ok-gather.ensures.closed
    (extends-contains c.add.new.self members c.args.thread c.in_ok-gather.ensures.extends
    (c.in_ok-add.ensures.added c.requires.0 room)))

pub invariant_of-self-2 : goal.invariant_of-self-2
invariant_of-self-2 c = record {
  whole = c.settle.ensures.whole;
  len = omega (arith, c.settle.ensures.len, c.self.invariant.len, (around c).tasks);
  flows = c.settle.ensures.flows c.self.inside.facts (around c) c.self.invariant.flows;
  room =
      omega (
        arith,
        c.in_ok-gather.ensures.room,
        c.in_ok-add.ensures.extends.room,
        ap (λ (m : Members). m.room) c.in_ok-start.ensures.ok,
        c.threads.ensures.count,
        (around c).tasks,
      );
}

pub returns-clause-touched : goal.returns-clause-touched
returns-clause-touched c =
    subst (λ S. Touches S c.put_level.new.self c.args.touched.now.items c.gather.new.touched.items)
    c.self.view_is
    (touches c.self.inside.facts c.put_level.new.self c.gather.new.component.threads
    c.args.touched.now.items c.gather.new.touched.items (around c)
    c.in_ok-gather.ensures.appended)
