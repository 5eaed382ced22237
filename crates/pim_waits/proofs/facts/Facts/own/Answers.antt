use Rattle.std.proofs.Common.{◌≡◌, ℕ, true, Some, get_or, sym, ◌∙◌, ap, subst, arith, unwrap_or}
use Rattle.std.proofs.Common.{le_antisymm, below_more}
use Rattle.pim_base.specs.State.{base_of, owner_of}
use Rattle.pim_waits.specs.Groups.{group_of}
use Rattle.pim_waits.specs.Whole.{IsWhole}
use Rattle.pim_base.specs.Lists.{contains}
use Rattle.pim_waits.proofs.Owning.{base-le-own, ceiling_for-le-own, own-le_listed}
use Rattle.pim_waits.proofs.facts.Facts.own.Goals as goal

pub loop-mutex-init : goal.loop-mutex-init
loop-mutex-init c =
    let S = c.args.self.now in
    let same : base_of S c.args.thread ≡ c.in-Some.own =
    ap (λ o. unwrap_or o 0) (sym c.in-Some.ensures) in
    record {
      most = omega (arith, same, base-le-own S c.args.thread);
      base = omega (arith, same);
      each = λ k low. absurd (omega arith);
    }

pub loop-mutex-preserved : goal.loop-mutex-preserved
loop-mutex-preserved c =
    let S = c.args.self.now in
    let t = c.args.thread in
    let mutexes = c.of-mutex-items.result.now in
    let i = c.loop-mutex.mutex-index in
    let old = c.loop-mutex.invariant in
    let more = c.higher-own.ensures in
    let given = c.ceiling_for.ensures in
    let fits = ceiling_for-le-own S
    (get_or mutexes i 0) t (subst IsWhole c.self.view_is c.self.invariant.whole) in
    record {
      most = omega (arith, old.most, more, given, fits);
      base = omega (arith, old.base, more);
      each =
          below_more _ _
          (λ k low. omega (arith, old.each k low, more)) (omega (arith, more, given));
    }

pub returns : goal.returns
returns c =
    let S = c.args.self.now in
    let t = c.args.thread in
    let mutexes = c.of-mutex-items.result.now in
    let old = c.loop-mutex.invariant in
    let listed : (m : ℕ) → owner_of S m ≡ Some t → contains mutexes m ≡ true =
    λ m owner.
    ap (λ ms. contains ms m)
    (c.of-mutex-items.ensures ∙ ap (group_of c.self.inside.owned) c.thread.view_is)
    ∙ c.self.invariant.owned m t (ap (λ T. owner_of T m) c.self.view_is ∙ owner) in
    le_antisymm old.most (own-le_listed S t c.loop-mutex.own mutexes listed old.base
    (λ k low. old.each k (omega (arith, low))))
