use Rattle.std.proofs.Common.{◌≡◌, true, ◌∙◌, ap, subst, arith}
use Rattle.pim_base.specs.Lists.{contains}
use Rattle.pim_base.specs.State.{IsTask}
use Rattle.pim_waits.specs.Awaited.{awaited_of}
use Rattle.pim_waits.specs.Groups.{group_of}
use Rattle.pim_waits.specs.Whole.{IsWhole}
use Rattle.pim_waits.proofs.Gathering.{awaited_known}
use Rattle.pim_waits.proofs.Lists.{contains_at}
use Rattle.pim_waits.proofs.facts.Facts.add_waiting.Goals as goal

pub returns-clause-waiting : goal.returns-clause-waiting
returns-clause-waiting c t e =
    let members = c.of-thread-items.result.now in
    let listed : contains members t ≡ true =
    ap (λ ts. contains ts t)
    (c.of-thread-items.ensures ∙ ap (group_of c.self.inside.waiting) c.mutex.view_is)
    ∙ c.self.invariant.waiting t c.args.mutex (ap (λ T. awaited_of T t) c.self.view_is ∙ e) in
    let at = contains_at members t listed in
    let whole = subst IsWhole c.self.view_is c.self.invariant.whole in
    let task : IsTask c.args.self.now t =
    awaited_known c.args.self.now t c.args.mutex whole.lists e in
    rw at.2 at (c.loop-thread.invariant.each at.0
    (omega (arith, at.1)) (omega (arith, at.2, task)) (omega (arith, at.2, task, c.requires)))
