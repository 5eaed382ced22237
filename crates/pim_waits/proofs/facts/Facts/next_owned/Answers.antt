use Rattle.std.proofs.Common.{◌≡◌, ℕ, true, Some, sym, ◌∙◌, ap, subst, fold}
use Rattle.std.proofs.lemmas.List.{drop_all}
use Rattle.pim_base.specs.Lists.{contains}
use Rattle.pim_base.specs.State.{owner_of}
use Rattle.pim_waits.specs.Groups.{group_of}
use Rattle.pim_waits.specs.Own.{nearer}
use Rattle.pim_waits.specs.Whole.{IsWhole}
use Rattle.pim_waits.proofs.Nearest.{next_owned_is}
use Rattle.pim_waits.proofs.facts.Facts.next_owned.Goals as goal

pub returns : goal.returns
returns c =
    let S = c.args.self.now in
    let t = c.args.thread in
    let mutexes = c.of-mutex-items.result.now in
    let listed : (m : ℕ) → owner_of S m ≡ Some t → contains mutexes m ≡ true =
    λ m owner.
    ap (λ ms. contains ms m)
    (c.of-mutex-items.ensures ∙ ap (group_of c.self.inside.owned) c.thread.view_is)
    ∙ c.self.invariant.owned m t (ap (λ T. owner_of T m) c.self.view_is ∙ owner) in
    next_owned_is S t c.args.after mutexes
    (subst IsWhole c.self.view_is c.self.invariant.whole) listed c.loop-mutex.next
    (sym (ap (fold (nearer S t c.args.after) c.loop-mutex.next) (drop_all
    c.loop-mutex.mutex-index mutexes c.loop-mutex-test.false)) ∙ c.loop-mutex.invariant)
