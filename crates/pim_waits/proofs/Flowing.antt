-- Levels that are passed on are those that the threads get.
use Rattle.std.proofs.Common.{◌≡◌, ℕ, zero, suc, ◌≤◌, Bool, true, false, Some, length, refl, sym}
use Rattle.std.proofs.Common.{◌∙◌, ap, subst, arith, le_trans, le_antisymm}
use Rattle.std.proofs.lemmas.Option.{same_Some, option_and_then_some}
use Rattle.pim_base.specs.State.{State, IsTask, owner_of, wait_of}
use Rattle.pim_base.specs.Chains.{blocker, heir}
use Rattle.pim_base.specs.Priorities.{own_priority, effective_priority}
use Rattle.pim_base.specs.declared.steps.Wait.{Wait}
use Rattle.pim_base.proofs.Closing.{only_known_hop}
use Rattle.pim_base.proofs.Hops.{hops, Reaches, OnlyKnownHop, reaches_from_contains}
use Rattle.pim_base.proofs.Hops.{contains_from_reaches, first_hop, hops_front}
use Rattle.pim_base.proofs.Stored.{heir-blocker, own_priority-le-effective_priority}
use Rattle.pim_base.proofs.Stored.{effective_priority-le, last_hop}
use Rattle.pim_waits.specs.Around.{Around}
use Rattle.pim_waits.specs.Flow.{Flows, ComesFrom, nobody}
use Rattle.pim_waits.specs.Whole.{IsWhole}
use Rattle.pim_waits.proofs.Shorter.{shorter}

-- a thread on a way has at least what the first one has
rises :
    (S : State) (level : ℕ → ℕ)
    → Flows S level nobody
    → (k u t : ℕ)
    → hops (heir S) k u ≡ Some t
    → level u ≤ level t
rises S level flows zero u t e =
    let same : level u ≡ level t = ap level (same_Some u t e) in omega (arith, same)
rises S level flows (suc k) u t e =
    let f = first_hop (heir S) k u t e in
    le_trans (flows.passed u f.0 f.1 refl) (rises S level flows k f.0 t f.2)

pub heirs_known : (S : State) → IsWhole S → OnlyKnownHop (heir S) (length S.base)
heirs_known S whole t u e = only_known_hop S whole.lists t u (heir-blocker S t u e)

-- levels that are passed on are those that the threads get
pub flows_effective :
    (S : State) (level : ℕ → ℕ)
    → IsWhole S
    → Flows S level nobody
    → (t : ℕ)
    → IsTask S t
    → level t ≡ effective_priority S t
flows_effective S level whole flows t task = le_antisymm high low
  where
    high : level t ≤ effective_priority S t
    high =
        let comes : ComesFrom S level t = flows.comes t task in
        let way : Reaches (heir S) comes.hops comes.from t =
        reaches_from_contains (heir S) comes.hops comes.from t comes.leads in
        let short : Reaches (heir S) (length S.base) comes.from t =
        shorter (heir S)
        (length S.base) (heirs_known S whole) way.0 way.0 comes.from t (omega arith) way.2 in
        omega (
          arith,
          comes.own,
          own_priority-le-effective_priority S comes.from t short.0 comes.task short.1 short.2,
        )

    low : effective_priority S t ≤ level t
    low =
        effective_priority-le S t (level t)
        (λ u k task_u le e. le_trans (flows.least u task_u) (rises S level flows k u t e))

-- who blocks a thread is known
pub blocker_known : (S : State) (t u : ℕ) → IsWhole S → blocker S t ≡ Some u → IsTask S u
blocker_known S t u whole e =
    option_and_then_some (λ (w : Wait). owner_of S w.mutex)
    (wait_of S t) u e (λ w at owner. whole.owners w.mutex u owner)

-- an unknown thread gets 0
pub unknown_effective :
    (S : State) (t : ℕ)
    → IsWhole S
    → (IsTask S t → ⊥)
    → effective_priority S t ≡ 0
unknown_effective S t whole unknown =
    let none : effective_priority S t ≤ 0 =
    effective_priority-le S t 0 (λ u k task le e. absurd (reached u k task e)) in
    omega (arith, none)
  where
    reached : (u k : ℕ) → IsTask S u → hops (heir S) k u ≡ Some t → ⊥
    reached u zero task e = unknown (subst (IsTask S) (same_Some u t e) task)
    reached u (suc k) task e =
        let l = last_hop (heir S) k u t e in
        unknown (blocker_known S l.0 t whole (heir-blocker S l.0 t l.2))

module _ (S T : State) (inside : ℕ → Bool) (around : Around S T inside) where
  -- a way that ends outside is outside, and is there in the other state
  outside_way :
      (k u t : ℕ)
      → hops (heir S) k u ≡ Some t
      → inside t ≡ false
      → (inside u ≡ false) × (hops (heir T) k u ≡ Some t)
  outside_way zero u t e out = (ap inside (same_Some u t e) ∙ out, e)
  outside_way (suc k) u t e out =
      let f = first_hop (heir S) k u t e in
      let rest = outside_way k f.0 t f.2 out in
      let here : inside u ≡ false = around.closed u f.0 (heir-blocker S u f.0 f.1) ∙ rest.0 in
      (here, hops_front (heir T) k u f.0 ((around.same u here).heir ∙ f.1) ∙ rest.1)

  -- the threads outside keep what they get, and the others begin with their own levels
  pub flows_again :
      (before after : ℕ → ℕ)
      → Flows S before nobody
      → ((t : ℕ) → inside t ≡ true → after t ≡ own_priority T t)
      → ((t : ℕ) → inside t ≡ false → after t ≡ before t)
      → Flows T after inside
  flows_again before after flows reset kept =
      record { least = least; passed = passed; comes = comes }
    where
      known : (t : ℕ) → IsTask T t → IsTask S t
      known t task = omega (arith, task, around.tasks)

      least : (t : ℕ) → IsTask T t → own_priority T t ≤ after t
      least t task = go (inside t) refl
        where
          go : (b : Bool) → inside t ≡ b → own_priority T t ≤ after t
          go true h = omega (arith, reset t h)
          go false h = omega (arith, kept t h, (around.same t h).own, flows.least t (known t task))

      passed : (t u : ℕ) → heir T t ≡ Some u → inside t ≡ false → after t ≤ after u
      passed t u e h =
          let out : inside u ≡ false = sym (around.closed_after t u (heir-blocker T t u e)) ∙ h in
          omega
          (arith, kept t h, kept u out, flows.passed t u (sym (around.same t h).heir ∙ e) refl)

      comes : (t : ℕ) → IsTask T t → ComesFrom T after t
      comes t task = go (inside t) refl
        where
          go : (b : Bool) → inside t ≡ b → ComesFrom T after t
          go true h = record {
            from = t;
            task = task;
            hops = 0;
            leads = contains_from_reaches (heir T) 0 t t 0 (omega arith) refl;
            own = sym (reset t h);
          }
          go false h =
              let c : ComesFrom S before t = flows.comes t (known t task) in
              let way : Reaches (heir S) c.hops c.from t =
              reaches_from_contains (heir S) c.hops c.from t c.leads in
              let there = outside_way way.0 c.from t way.2 h in
              record {
                from = c.from;
                task = omega (arith, c.task, around.tasks);
                hops = c.hops;
                leads = contains_from_reaches (heir T) c.hops c.from t way.0 way.1 there.1;
                own = (around.same c.from there.0).own ∙ c.own ∙ sym (kept t h);
              }

  -- a thread outside gets no more than it did
  pub outside_effective :
      (t : ℕ)
      → inside t ≡ false
      → effective_priority S t ≤ effective_priority T t
  outside_effective t out =
      effective_priority-le S t (effective_priority T t)
      (λ u k task le e.
      let there = outside_way k u t e out in
      let bound = own_priority-le-effective_priority T u t k
      (omega (arith, task, around.tasks)) (omega (arith, le, around.tasks)) there.1 in
      omega (arith, bound, (around.same u there.0).own))
