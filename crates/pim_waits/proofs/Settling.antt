-- What is settled after a change, and what it touches.
use Rattle.std.proofs.Common.{◌≡◌, ℕ, suc, ◌≤◌, ◌++◌, ◌∷◌, [], ◌⊎◌, false, List, length, Option}
use Rattle.std.proofs.Common.{Some, None, refl, sym, ◌∙◌, ap, subst, inl, inr, arith, unwrap_or}
use Rattle.std.proofs.Common.{le_antisymm}
use Rattle.std.proofs.lemmas.Bool.{cases_lt, true≢false}
use Rattle.pim_base.specs.Lists.{nth, contains}
use Rattle.pim_base.specs.State.{State, IsTask, base_of, owner_of, wait_of, protocol_of, with_count}
use Rattle.pim_base.specs.Chains.{blocker, heir, heir_in, heir_of}
use Rattle.pim_base.specs.Priorities.{ceiling, own_priority}
use Rattle.pim_base.specs.declared.steps.Protocol.{Protocol}
use Rattle.pim_base.specs.declared.steps.Wait.{Wait}
use Rattle.pim_base.proofs.Closing.{only_known_hop}
use Rattle.pim_base.proofs.Stored.{heir-blocker}
use Rattle.pim_base.proofs.Effective.{known_from_owner}
use Rattle.pim_base.proofs.Hops.{chain-same, contains_from_reaches}
use Rattle.pim_base.proofs.Places.{nth_within}
use Rattle.pim_waits.specs.Added.{with_thread, with_mutex}
use Rattle.pim_waits.specs.Around.{Around, IsSame}
use Rattle.pim_waits.specs.Flow.{Flows, ComesFrom, level_at, nobody}
use Rattle.pim_waits.specs.Members.{Members, Extends}
use Rattle.pim_waits.specs.Sides.{HasSides, IsIdle, HasEnds, IsFree}
use Rattle.pim_waits.specs.Touched.{Touches}
use Rattle.pim_waits.specs.Waiting.{gets}
use Rattle.pim_waits.specs.Whole.{IsWhole}
use Rattle.pim_waits.proofs.Changing.{heir_in-none, heir_by, blocker_by}
use Rattle.pim_waits.proofs.Flowing.{flows_again, flows_effective, unknown_effective, blocker_known}
use Rattle.pim_waits.proofs.Gathering.{extends-contains}
use Rattle.pim_waits.proofs.Lists.{nth-left, nth-last, nth_none}
use Rattle.pim_waits.proofs.Owning.{base-le-own, ceiling-le-own, own-le}
use Rattle.pim_waits.proofs.Untouching.{untouched_outside}
use Rattle.pim_waits.proofs.Whole.{length-push, wait-thread, owner-mutex}

-- the threads outside of what was gathered are untouched
pub touches :
    (S T : State) (threads before after : List ℕ)
    → Around S T (contains threads)
    → after ≡ before ++ threads
    → Touches S T before after
touches S T threads before after around appended = record {
  touched = threads;
  appended = appended;
  others = λ t task out. untouched_outside S T (contains threads) around t out;
}

-- ---- what is kept for a thread is what it gets
pub kept_gets :
    (S : State) (levels : List ℕ) (t : ℕ)
    → IsWhole S
    → length levels ≡ length S.base
    → Flows S (level_at levels) nobody
    → level_at levels t ≡ gets S t
kept_gets S levels t whole len flows = go (nth levels t) refl
  where
    go : (o : Option ℕ) → nth levels t ≡ o → level_at levels t ≡ gets S t
    go (Some level) e =
        let within = nth_within levels t level e in
        flows_effective S (level_at levels) whole flows t (omega (arith, within, len))
    go None e =
        ap (λ o. unwrap_or o 0) e ∙ sym (unknown_effective S t whole
        (λ task. nth_none levels t e task.0 (omega (arith, task, len))))

-- ---- one thread more
module _ (S : State) (level : ℕ) (whole : IsWhole S) (after : IsWhole (with_thread S level)) where
  abbrev T : State
  T = with_thread S level

  heir-thread : (t : ℕ) → heir T t ≡ heir S t
  heir-thread t = ap (heir_by S) (wait-thread S level t)

  base-thread : (t : ℕ) → IsTask S t → base_of T t ≡ base_of S t
  base-thread t task = ap (λ v. unwrap_or v 0) (nth-left S.base (level ∷ []) t task.1)

  own-thread : (t : ℕ) → IsTask S t → own_priority T t ≡ own_priority S t
  own-thread t task = rw (base-thread t task) refl

  -- the new thread owns nothing
  own-new : own_priority T (suc (length S.base)) ≤ level
  own-new =
      own-le T (suc (length S.base)) level
      (omega (arith, ap (λ v. unwrap_or v 0) (nth-last S.base level)))
      (λ m e. absurd (omega (arith, whole.owners m (suc (length S.base)) e)))

  own-new_level : level ≤ own_priority T (suc (length S.base))
  own-new_level =
      omega (
        arith,
        ap (λ v. unwrap_or v 0) (nth-last S.base level),
        base-le-own T (suc (length S.base)),
      )

  -- a known thread was there before, or is the new one
  old_or_new : (t : ℕ) → IsTask T t → IsTask S t ⊎ (t ≡ suc (length S.base))
  old_or_new t task = elim (cases_lt (length S.base) t) [
    | inl new ↦ inr (omega (arith, new, task, length-push S.base level))
    | inr old ↦ inl (omega (arith, old, task))
  ]

  pub flows_thread :
      (levels : List ℕ)
      → length levels ≡ length S.base
      → Flows S (level_at levels) nobody
      → Flows T (level_at (levels ++ level ∷ [])) nobody
  flows_thread levels len flows = record { least = least; passed = passed; comes = comes }
    where
      kept : (t : ℕ) → IsTask S t → level_at (levels ++ level ∷ []) t ≡ level_at levels t
      kept t task =
          ap (λ v. unwrap_or v 0) (nth-left levels (level ∷ []) t (omega (arith, task, len)))

      new : level_at (levels ++ level ∷ []) (suc (length S.base)) ≡ level
      new =
          ap (λ n. level_at (levels ++ level ∷ []) (suc n)) (sym len)
          ∙ ap (λ v. unwrap_or v 0) (nth-last levels level)

      wider : (t : ℕ) → IsTask S t → IsTask T t
      wider t task = omega (arith, task, length-push S.base level)

      least : (t : ℕ) → IsTask T t → own_priority T t ≤ level_at (levels ++ level ∷ []) t
      least t task = elim (old_or_new t task) [
        | inl old ↦ omega (arith, kept t old, own-thread t old, flows.least t old)
        | inr last ↦ subst (λ x. own_priority T x ≤ level_at (levels ++ level ∷ []) x)
            (sym last) (omega (arith, own-new, new))
      ]

      passed :
          (t u : ℕ)
          → heir T t ≡ Some u
          → nobody t ≡ false
          → level_at (levels ++ level ∷ []) t ≤ level_at (levels ++ level ∷ []) u
      passed t u e h =
          let before : heir S t ≡ Some u = sym (heir-thread t) ∙ e in
          let blocks : blocker S t ≡ Some u = heir-blocker S t u before in
          let task_t : IsTask S t = only_known_hop S whole.lists t u blocks in
          let task_u : IsTask S u = blocker_known S t u whole blocks in
          omega (arith, kept t task_t, kept u task_u, flows.passed t u before refl)

      comes : (t : ℕ) → IsTask T t → ComesFrom T (level_at (levels ++ level ∷ [])) t
      comes t task = elim (old_or_new t task) [
        | inl old ↦
            let c : ComesFrom S (level_at levels) t = flows.comes t old in
            record {
              from = c.from;
              task = wider c.from c.task;
              hops = c.hops;
              leads =
                  ap (λ ts. contains ts t) (chain-same (heir T) (heir S) heir-thread c.hops c.from)
                  ∙ c.leads;
              own = own-thread c.from c.task ∙ c.own ∙ sym (kept t old);
            }
        | inr last ↦
            record {
              from = t;
              task = task;
              hops = 0;
              leads = contains_from_reaches (heir T) 0 t t 0 (omega arith) refl;
              own =
                  ap (own_priority T) last ∙ le_antisymm own-new own-new_level ∙ sym new
                  ∙ ap (level_at (levels ++ level ∷ [])) (sym last);
            }
      ]

-- ---- one mutex more
module _ (S : State) (p : Protocol) (whole : IsWhole S) (after : IsWhole (with_mutex S p)) where
  protocol-mutex :
      (m t : ℕ)
      → owner_of S m ≡ Some t
      → protocol_of (with_mutex S p) m ≡ protocol_of S m
  protocol-mutex m t e =
      ap (λ v. unwrap_or v Protocol.None)
      (nth-left S.protocol (p ∷ []) m (known_from_owner S m t whole.lists e).1)

  heir_of-mutex : (m : ℕ) → heir_of (with_mutex S p) m ≡ heir_of S m
  heir_of-mutex m =
      ap (heir_in (protocol_of (with_mutex S p) m)) (owner-mutex S p m) ∙ go (owner_of S m) refl
    where
      go :
          (o : Option ℕ)
          → owner_of S m ≡ o
          → heir_in (protocol_of (with_mutex S p) m) (owner_of S m) ≡ heir_of S m
      go None e =
          ap (heir_in _) e
          ∙ heir_in-none _ ∙ sym (ap (heir_in (protocol_of S m)) e ∙ heir_in-none _)
      go (Some t) e = ap (λ q. heir_in q (owner_of S m)) (protocol-mutex m t e)

  same_mutex : (t : ℕ) → IsSame S (with_mutex S p) t
  same_mutex t = record {
    base = refl;
    own =
        le_antisymm
        (own-le (with_mutex S p) t (own_priority S t) (base-le-own S t)
        (λ m e.
        let before : owner_of S m ≡ Some t = sym (owner-mutex S p m) ∙ e in
        omega (
          arith,
          ap (λ q. unwrap_or (ceiling q) 0) (protocol-mutex m t before),
          ceiling-le-own S m t whole before,
        )))
        (own-le S t (own_priority (with_mutex S p) t) (base-le-own (with_mutex S p) t)
        (λ m e.
        omega (
          arith,
          ap (λ q. unwrap_or (ceiling q) 0) (protocol-mutex m t e),
          ceiling-le-own (with_mutex S p) m t after (owner-mutex S p m ∙ e),
        )));
    wait = λ u e. refl;
    blocker = blockers (wait_of S t);
    heir = heirs (wait_of S t);
  }
    where
      blockers : (w : Option Wait) → blocker_by (with_mutex S p) w ≡ blocker_by S w
      blockers None = refl
      blockers (Some w) = owner-mutex S p w.mutex

      heirs : (w : Option Wait) → heir_by (with_mutex S p) w ≡ heir_by S w
      heirs None = refl
      heirs (Some w) = heir_of-mutex w.mutex

  pub flows_mutex : (level : ℕ → ℕ) → Flows S level nobody → Flows (with_mutex S p) level nobody
  flows_mutex level flows =
      flows_again S (with_mutex S p) nobody around level level flows
      (λ t h. absurd (true≢false (sym h))) (λ t h. refl)
    where
      around : Around S (with_mutex S p) nobody
      around =
          record {
            tasks = refl;
            same = λ t out. same_mutex t;
            closed = λ t u e. refl;
            closed_after = λ t u e. refl;
          }

-- ---- another count
pub flows_count :
    (S : State) (m k : ℕ) (level : ℕ → ℕ)
    → Flows S level nobody
    → Flows (with_count S m k) level nobody
flows_count S m k level flows = record {
  least = flows.least;
  passed = flows.passed;
  comes = λ t task.
      let c : ComesFrom S level t = flows.comes t task in
      record { from = c.from; task = c.task; hops = c.hops; leads = c.leads; own = c.own };
}

-- ---- what was gathered has what it began with
pub sides_extended :
    (S : State) (m : ℕ) (o : Option ℕ) (a b : Members)
    → Extends a b
    → IsIdle S m ⊎ HasSides S m o a.threads
    → IsIdle S m ⊎ HasSides S m o b.threads
sides_extended S m o a b more sides = elim sides [
  | inl idle ↦ inl idle
  | inr all ↦
      inr (record {
        waiting = λ t e. extends-contains a b t more (all.waiting t e);
        before = λ t e. extends-contains a b t more (all.before t e);
        after = λ t e. extends-contains a b t more (all.after t e);
      })
]

pub ends_extended :
    (S : State) (t : ℕ) (o : Option ℕ) (a b : Members)
    → Extends a b
    → IsFree S t o ⊎ HasEnds S t o a.threads
    → IsFree S t o ⊎ HasEnds S t o b.threads
ends_extended S t o a b more ends = elim ends [
  | inl free ↦ inl free
  | inr all ↦
      inr (record {
        thread = extends-contains a b t more all.thread;
        after = λ u e. extends-contains a b u more (all.after u e);
      })
]
