-- Levels, as one heir after another is raised.
use Rattle.std.proofs.Common.{◌≡◌, ℕ, suc, ◌+◌, ◌<◌, ◌≤◌, ◌==◌, ◌||◌, Bool, false, cond, List}
use Rattle.std.proofs.Common.{length, Some, sym, ◌∙◌, ap, subst, inl, inr, arith, unwrap_or}
use Rattle.std.proofs.Common.{count_by, get_or, nat_lt, zero}
use Rattle.std.proofs.lemmas.Bool.{cases_eq, ne_eqb, eq-eqb, true≢false}
use Rattle.std.proofs.lemmas.Bool.Decides.{nat_tests}
use Rattle.std.proofs.lemmas.List.Sums.{sum_by-set}
use Rattle.std.proofs.lemmas.Option.{same_Some, unwrap_or-slice_get}
use Rattle.pim_base.specs.Lists.{put}
use Rattle.pim_base.specs.State.{State, IsTask}
use Rattle.pim_base.specs.Chains.{heir}
use Rattle.pim_base.specs.Priorities.{own_priority}
use Rattle.pim_base.proofs.Hops.{hops, Reaches, reaches_from_contains, contains_from_reaches}
use Rattle.pim_base.proofs.Hops.{hops-add, hops_front}
use Rattle.pim_base.proofs.Places.{nth-put_same, nth-put_other}
use Rattle.pim_waits.specs.Flow.{Flows, ComesFrom, level_at}
use Rattle.pim_waits.specs.Whole.{IsWhole}
use Rattle.pim_waits.proofs.Flowing.{heirs_known}

-- ---- the level at a place after a write
pub level_at-put :
    (levels : List ℕ) (n t level : ℕ)
    → 1 ≤ n
    → n ≤ length levels
    → level_at (put levels n level) t ≡ cond (t == n) level (level_at levels t)
level_at-put levels n t level low high = elim (cases_eq t n) [
  | inr ne ↦
      ap (λ v. unwrap_or v 0) (nth-put_other levels n t level (λ e. ne (sym e)))
      ∙ ap (λ b. cond b level (level_at levels t)) (sym (ne_eqb t n ne))
  | inl same ↦
      ap (level_at (put levels n level)) same
      ∙ ap (λ v. unwrap_or v 0) (nth-put_same levels n level low high)
      ∙ ap (λ b. cond b level (level_at levels t)) (sym (eq-eqb t n same))
]

-- fewer levels are below one when one of them is raised to it
pub count-raised :
    (levels : List ℕ) (n level : ℕ)
    → 1 ≤ n
    → n ≤ length levels
    → level_at levels n < level
    → count_by (λ l. nat_lt l level) (put levels n level) < count_by (λ l. nat_lt l level) levels
count-raised levels zero level low high less = absurd (omega arith)
count-raised levels (suc i) level low high less =
    let change =
    sum_by-set (λ l. cond (nat_lt l level) 1 0) levels i level 0 (omega (arith, high)) in
    let was : get_or levels i 0 < level = rw (← unwrap_or-slice_get levels i 0) less in
    grind (arith, nat_tests, change, was)

module _ (S : State) (level : ℕ → ℕ)
    (from : ℕ) (pending : ℕ → Bool) (flows : Flows S level (λ t. t == from || pending t)) where
  -- a thread other than the one from which levels are passed on
  passed_other :
      (t u : ℕ)
      → (t ≡ from → ⊥)
      → heir S t ≡ Some u
      → pending t ≡ false
      → level t ≤ level u
  passed_other t u ne e h = flows.passed t u e (ap (λ b. b || pending t) (ne_eqb t from ne) ∙ h)

  pub flows_stopped :
      ((u : ℕ) → heir S from ≡ Some u → level from ≤ level u)
      → Flows S level pending
  flows_stopped stop = record {
    least = flows.least;
    passed = λ t u e h. elim (cases_eq t from) [
      | inl same ↦
          let bound : level from ≤ level u = stop u (ap (heir S) (sym same) ∙ e) in
          subst (λ x. level x ≤ level u) (sym same) bound
      | inr ne ↦ passed_other t u ne e h
    ];
    comes = flows.comes;
  }

  module _ (raised : ℕ → ℕ)
      (to : ℕ) (leads : heir S from ≡ Some to) (less : level to < level from) (whole : IsWhole S)
      (is : (t : ℕ) → raised t ≡ cond (t == to) (level from) (level t)) where
    raised_to : (t : ℕ) → t ≡ to → raised t ≡ level from
    raised_to t same = is t ∙ ap (λ b. cond b (level from) (level t)) (eq-eqb t to same)

    raised_other : (t : ℕ) → (t ≡ to → ⊥) → raised t ≡ level t
    raised_other t ne = is t ∙ ap (λ b. cond b (level from) (level t)) (ne_eqb t to ne)

    least : (t : ℕ) → IsTask S t → own_priority S t ≤ raised t
    least t task = elim (cases_eq t to) [
      | inl same ↦ omega (arith, raised_to t same, flows.least t task, ap level same, less)
      | inr ne ↦ omega (arith, raised_other t ne, flows.least t task)
    ]

    passed : (t u : ℕ) → heir S t ≡ Some u → (t == to || pending t) ≡ false → raised t ≤ raised u
    passed t u e h = elim (cases_eq t to) [
      | inl same ↦ absurd (true≢false (sym (ap (λ b. b || pending t) (eq-eqb t to same)) ∙ h))
      | inr ne ↦
          let free : pending t ≡ false = sym (ap (λ b. b || pending t) (ne_eqb t to ne)) ∙ h in
          elim (cases_eq t from) [
            | inl first ↦
                let same : u ≡ to = same_Some u to (sym e ∙ ap (heir S) first ∙ leads) in
                omega (arith, raised_other t ne, raised_to u same, ap level first)
            | inr other ↦
                let bound : level t ≤ level u = passed_other t u other e free in
                elim (cases_eq u to) [
                  | inl same ↦
                      omega (arith, raised_other t ne, raised_to u same, bound, ap level same, less)
                  | inr apart ↦ omega (arith, raised_other t ne, raised_other u apart, bound)
                ]
          ]
    ]

    comes : (t : ℕ) → IsTask S t → ComesFrom S raised t
    comes t task = elim (cases_eq t to) [
      | inl same ↦
          let c : ComesFrom S level from = flows.comes from (heirs_known S whole from to leads) in
          let way : Reaches (heir S) c.hops c.from from =
          reaches_from_contains (heir S) c.hops c.from from c.leads in
          let on : hops (heir S) (way.0 + 1) c.from ≡ Some t =
          hops-add (heir S) way.0 1 c.from from way.2
          ∙ hops_front (heir S) 0 from to leads ∙ ap Some (sym same) in
          record {
            from = c.from;
            task = c.task;
            hops = c.hops + 1;
            leads =
                contains_from_reaches
                (heir S) (c.hops + 1) c.from t (way.0 + 1) (omega (arith, way.1)) on;
            own = c.own ∙ sym (raised_to t same);
          }
      | inr ne ↦
          let c : ComesFrom S level t = flows.comes t task in
          record {
            from = c.from;
            task = c.task;
            hops = c.hops;
            leads = c.leads;
            own = c.own
                ∙ sym (raised_other t ne);
          }
    ]

    pub flows_raised : Flows S raised (λ t. t == to || pending t)
    flows_raised = record { least = least; passed = passed; comes = comes }
