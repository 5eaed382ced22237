use Rattle.std.proofs.Common.{◌≡◌, true, Some, sym, ◌∙◌, ap, arith}
use Rattle.pim_base.specs.Lists.{contains}
use Rattle.pim_base.specs.State.{owner_of}
use Rattle.pim_waits.specs.Groups.{group_of}
use Rattle.pim_waits.proofs.Gathering.{through}
use Rattle.pim_waits.proofs.Lists.{contains_at}
use Rattle.pim_waits.proofs.facts.Facts.add_blocked.Goals as goal

pub returns-clause-blocked : goal.returns-clause-blocked
returns-clause-blocked c t e =
    let mutexes = c.of-mutex-items.result.now in
    let way = through c.args.self.now t c.args.thread e in
    let listed : contains mutexes way.mutex ≡ true =
    ap (λ ms. contains ms way.mutex)
    (c.of-mutex-items.ensures ∙ ap (group_of c.self.inside.owned) c.thread.view_is)
    ∙ c.self.invariant.owned way.mutex c.args.thread
    (ap (λ T. owner_of T way.mutex) c.self.view_is ∙ way.owner) in
    let at = contains_at mutexes way.mutex listed in
    c.loop-mutex.invariant.each at.0 (omega (arith, at.1)) t (way.awaits ∙ ap Some (sym at.2))
