use Rattle.std.proofs.Common.{◌≡◌, ℕ, ◌==◌, cond, length, get_or, refl, sym, ◌∙◌, ap, subst, inl}
use Rattle.std.proofs.Common.{inr, arith, below_more, eq-eqb}
use Rattle.std.proofs.lemmas.Bool.{cases_eq, ne_eqb, true≢false}
use Rattle.std.proofs.lemmas.List.{get_or_default}
use Rattle.pim_base.specs.Lists.{put, contains}
use Rattle.pim_base.specs.State.{IsTask}
use Rattle.pim_base.specs.Priorities.{own_priority}
use Rattle.pim_base.proofs.Places.{length-put}
use Rattle.pim_waits.specs.Flow.{level_at}
use Rattle.pim_waits.proofs.Lists.{contains-get_or, contains_at}
use Rattle.pim_waits.proofs.Raising.{level_at-put}
use Rattle.pim_waits.proofs.settle.reset.Goals as goal

pub own-requires : goal.own-requires
own-requires c =
    let members = c.args.members.now in
    let i = c.loop-thread.thread-index in
    let here : get_or members i 0 ≡ c.thread.inside.0 =
    get_or_default members i 0 c.thread-item.result c.loop-thread-test.true
    ∙ sym c.thread-item.is ∙ sym c.thread.view_is in
    subst (IsTask c.args.facts.now) here
    (c.requires.known (get_or members i 0) (contains-get_or members i c.loop-thread-test.true))

pub loop-thread-preserved : goal.loop-thread-preserved
loop-thread-preserved c =
    let S = c.args.facts.now in
    let members = c.args.members.now in
    let levels = c.loop-thread.gets.items in
    let i = c.loop-thread.thread-index in
    let n = get_or members i 0 in
    let own = c.own.result in
    let old = c.loop-thread.invariant in
    let item : c.thread-item.result ≡ n =
    c.thread-item.is
    ∙ sym (get_or_default members i 0 c.thread-item.result c.loop-thread-test.true) in
    let written : c.put.new.items.items ≡ put levels n own =
    c.put.ensures ∙ ap (λ k. put levels k own) (c.thread.view_is ∙ item) in
    let member = contains-get_or members i c.loop-thread-test.true in
    let known : IsTask S n = c.requires.known n member in
    let is : (t : ℕ) → level_at c.put.new.items.items t ≡ cond (t == n) own (level_at levels t) =
    λ t. ap (λ ls. level_at ls t) written
    ∙ level_at-put levels n t own known.0 (omega (arith, known, old.len, c.requires.len)) in
    let here : (t : ℕ) → t ≡ n → level_at c.put.new.items.items t ≡ own_priority S t =
    λ t same. is t ∙ ap (λ b. cond b own (level_at levels t)) (eq-eqb t n same)
    ∙ c.own.ensures ∙ ap (own_priority S) (c.thread.view_is ∙ item ∙ sym same) in
    let other : (t : ℕ) → (t ≡ n → ⊥) → level_at c.put.new.items.items t ≡ level_at levels t =
    λ t ne. is t ∙ ap (λ b. cond b own (level_at levels t)) (ne_eqb t n ne) in
    record {
      len = ap length written ∙ length-put levels n own ∙ old.len;
      inside = below_more _ _
          (λ k low. elim (cases_eq (get_or members k 0) n) [
            | inl same ↦ here (get_or members k 0) same
            | inr ne ↦ other (get_or members k 0) ne ∙ old.inside k low
          ])
          (here n refl);
      outside =
          λ t h. other t (λ same. true≢false (sym member ∙ ap (contains members) (sym same) ∙ h))
          ∙ old.outside t h;
    }

pub returns-clause-inside : goal.returns-clause-inside
returns-clause-inside c t h =
    let at = contains_at c.args.members.now t h in
    subst (λ x. level_at c.loop-thread.gets.items x ≡ own_priority c.args.facts.now x) at.2
    (c.loop-thread.invariant.inside at.0 (omega (arith, at.1)))
