use Rattle.std.proofs.Common.{◌≡◌, ℕ, ◌<◌, ◌==◌, cond, length, refl, sym, ◌∙◌, ap, subst, arith}
use Rattle.std.proofs.Common.{count_by, nat_lt, eq-eqb}
use Rattle.pim_base.specs.Lists.{put}
use Rattle.pim_base.proofs.Places.{length-put}
use Rattle.pim_base.proofs.Stored.{heir-blocker}
use Rattle.pim_waits.specs.Flow.{IsLower, level_at}
use Rattle.pim_waits.proofs.Flowing.{blocker_known}
use Rattle.pim_waits.proofs.Raising.{level_at-put, count-raised, flows_stopped, flows_raised}
use Rattle.pim_waits.proofs.settle.pass_on.Goals as goal

lower :
    (c : goal.After-put)
    → IsLower c.args.facts.now
    c.loop-heir.gets.items c.loop-heir.from c.in-Some.level c.in-Some-lower_heir.heir
lower c =
    subst (λ ls.
    IsLower c.args.facts.now ls c.loop-heir.from c.in-Some.level c.in-Some-lower_heir.heir)
    c.deref-in-loop-heir.ensures.value c.in-Some-lower_heir.ensures

written :
    (c : goal.After-put)
    → c.put.new.items.items ≡ put c.loop-heir.gets.items c.in-Some-lower_heir.heir c.in-Some.level
written c = c.put.ensures ∙ ap (λ n. put c.loop-heir.gets.items n c.in-Some.level) c.heir.view_is

pub loop-heir-smaller : goal.loop-heir-smaller
loop-heir-smaller c =
    let levels = c.loop-heir.gets.items in
    let level = c.in-Some.level in
    subst (λ ls. count_by (λ l. nat_lt l level) ls < count_by (λ l. nat_lt l level) levels)
    (sym (written c))
    (count-raised levels c.in-Some-lower_heir.heir level
    (lower c).known.0 (lower c).known.1 (lower c).lower)

pub loop-heir-preserved : goal.loop-heir-preserved
loop-heir-preserved c =
    let levels = c.loop-heir.gets.items in
    let level = c.in-Some.level in
    let to = c.in-Some-lower_heir.heir in
    let old = c.loop-heir.invariant in
    let is : (t : ℕ) → level_at c.put.new.items.items t ≡ cond (t == to) level (level_at levels t) =
    λ t. ap (λ ls. level_at ls t) (written c)
    ∙ level_at-put levels to t level (lower c).known.0 (lower c).known.1 in
    record {
      len = ap length (written c) ∙ length-put levels to level ∙ old.len;
      level = is to ∙ ap (λ b. cond b level (level_at levels to)) (eq-eqb to to refl);
      flows = λ pending flows.
          flows_raised c.args.facts.now
          (level_at levels) c.loop-heir.from pending (old.flows pending flows)
          (level_at c.put.new.items.items) to
          (lower c).heir (omega (arith, (lower c).lower, old.level)) c.requires.whole
          (λ t. is t ∙ ap (λ l. cond (t == to) l (level_at levels t)) (sym old.level));
    }

pub returns-clause-flows : goal.returns-clause-flows
returns-clause-flows c pending flows =
    let S = c.args.facts.now in
    let levels = c.loop-heir.gets.items in
    let from = c.loop-heir.from in
    let old = c.loop-heir.invariant in
    let same = c.deref-in-loop-heir.ensures.value in
    flows_stopped S (level_at levels) from pending (old.flows pending flows) (λ u e.
    let known = blocker_known S from u c.requires.whole (heir-blocker S from u e) in
    let bound = c.in_default-lower_heir.ensures u e known.0
    (omega (arith, known, ap length same, old.len, c.requires.len)) in
    omega (arith, rw same at bound, old.level))
