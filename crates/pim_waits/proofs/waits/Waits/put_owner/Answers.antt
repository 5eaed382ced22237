use Rattle.std.proofs.Common.{sym, ap, subst, arith}
use Rattle.pim_base.specs.Lists.{contains}
use Rattle.pim_waits.specs.Around.{Around}
use Rattle.pim_waits.specs.Touched.{Touches}
use Rattle.pim_waits.specs.Members.{Members}
use Rattle.pim_waits.specs.Whole.{IsWhole}
use Rattle.pim_waits.proofs.Changing.{around_owner}
use Rattle.pim_waits.proofs.Settling.{touches, sides_extended}
use Rattle.pim_waits.proofs.waits.Waits.put_owner.Goals as goal

around :
    (c : goal.After-settle)
    → Around c.self.inside.facts c.put_owner.new.self (contains c.gather.new.component.threads)
around c =
    let S = c.self.inside.facts in
    let members = c.gather.new.component in
    subst (λ T. Around S T (contains members.threads)) (sym c.in_ok-put_owner.ensures.ok)
    (around_owner S c.args.mutex c.args.owner c.self.invariant.whole
    (subst IsWhole c.in_ok-put_owner.ensures.ok c.settle.ensures.whole)
    members.threads c.in_ok-gather.ensures.closed
    (sides_extended S c.args.mutex c.args.owner c.add_sides.new.component
    members c.in_ok-gather.ensures.extends c.in_ok-add_sides.ensures.sides))

pub invariant_of-self-2 : goal.invariant_of-self-2
invariant_of-self-2 c = record {
  whole = c.settle.ensures.whole;
  len = omega (arith, c.settle.ensures.len, c.self.invariant.len, (around c).tasks);
  flows = c.settle.ensures.flows c.self.inside.facts (around c) c.self.invariant.flows;
  room =
      omega (
        arith,
        c.in_ok-gather.ensures.room,
        c.in_ok-add_sides.ensures.room,
        ap (λ (m : Members).
            m.room) c.in_ok-start.ensures.ok,
        c.threads.ensures.count,
        (around c).tasks,
      );
}

pub returns-clause-touched : goal.returns-clause-touched
returns-clause-touched c =
    subst (λ S. Touches S c.put_owner.new.self c.args.touched.now.items c.gather.new.touched.items)
    c.self.view_is
    (touches c.self.inside.facts c.put_owner.new.self c.gather.new.component.threads
    c.args.touched.now.items c.gather.new.touched.items (around c)
    c.in_ok-gather.ensures.appended)
