-- A change of one fact is one within the component of the threads that it is about.
use Rattle.std.proofs.Common.{◌≡◌, ℕ, ◌≤◌, true, false, cond, ◌⊎◌, inl, inr, List, Option, Some}
use Rattle.std.proofs.Common.{None, refl, sym, ◌∙◌, ap, subst, arith, unwrap_or, le_antisymm}
use Rattle.std.proofs.Common.{option_and_then, rules}
use Rattle.std.specs.Option.{option_map}
use Rattle.std.proofs.lemmas.Bool.{cases_eq, true≢false, eq-eqb}
use Rattle.std.proofs.lemmas.Option.{same_Some, none-some}
use Rattle.pim_base.specs.Lists.{contains}
use Rattle.pim_base.specs.State.{State, IsState, IsTask, base_of, protocol_of, owner_of, wait_of}
use Rattle.pim_base.specs.State.{with_owner, with_wait, with_base, with_ceiling}
use Rattle.pim_base.specs.Chains.{blocker, heir, heir_of, heir_in}
use Rattle.pim_base.specs.Priorities.{ceiling, ceiling_of, own_priority}
use Rattle.pim_base.specs.declared.steps.Protocol.{Protocol}
use Rattle.pim_base.specs.declared.steps.Wait.{Wait}
use Rattle.pim_base.proofs.Places.{nth-put_other, nth-put_same, length-put}
use Rattle.pim_base.proofs.Stored.{heir-blocker}
use Rattle.pim_waits.specs.Around.{Around, IsSame}
use Rattle.pim_waits.specs.Awaited.{awaited_of}
use Rattle.pim_waits.specs.Members.{IsClosed}
use Rattle.pim_waits.specs.Model.{wait_for}
use Rattle.pim_waits.specs.Sides.{HasSides, IsIdle, HasEnds, IsFree}
use Rattle.pim_waits.specs.Whole.{IsWhole}
use Rattle.pim_waits.proofs.Gathering.{Through, through}
use Rattle.pim_waits.proofs.Whole.{owner-put}
use Rattle.pim_waits.proofs.Owning.{base-le-own, ceiling-le-own, own-le}

-- a member is inside
apart : (xs : List ℕ) (t u : ℕ) → contains xs t ≡ false → contains xs u ≡ true → t ≡ u → ⊥
apart xs t u out member same = true≢false (sym member ∙ ap (contains xs) (sym same) ∙ out)

-- ---- another level
pub around_level :
    (S : State) (t level : ℕ) (xs : List ℕ)
    → IsClosed S xs
    → contains xs t ≡ true
    → Around S (with_base S t level) (contains xs)
around_level S t level xs closed member = record {
  tasks = length-put S.base t level;
  same = same;
  closed = closed;
  closed_after = closed;
}
  where
    same : (u : ℕ) → contains xs u ≡ false → IsSame S (with_base S t level) u
    same u out =
        let base : base_of (with_base S t level) u ≡ base_of S u =
        ap (λ v. unwrap_or v 0)
        (nth-put_other S.base t u level (λ e. apart xs u t out member (sym e))) in
        record { base = base; own = rw base refl; wait = λ v e. refl; blocker = refl; heir = refl }

-- ---- another ceiling
protocol-other :
    (S : State) (m k c : ℕ)
    → (k ≡ m → ⊥)
    → protocol_of (with_ceiling S m c) k ≡ protocol_of S k
protocol-other S m k c ne =
    ap (λ v. unwrap_or v Protocol.None)
    (nth-put_other S.protocol m k (Protocol.Protect c) (λ e. ne (sym e)))

pub heir_in-none : (p : Protocol) → heir_in p None ≡ None
heir_in-none p = search rules

-- who blocks and who inherits, by a wait
abbrev pub blocker_by : State → Option Wait → Option ℕ
blocker_by S w = option_and_then (λ (w : Wait). owner_of S w.mutex) w

abbrev pub heir_by : State → Option Wait → Option ℕ
heir_by S w = option_and_then (λ (w : Wait). heir_of S w.mutex) w

module _ (S : State) (m c : ℕ) (xs : List ℕ)
    (whole : IsWhole S) (after : IsWhole (with_ceiling S m c)) (closed : IsClosed S xs)
    (owner : (t : ℕ) → owner_of S m ≡ Some t → contains xs t ≡ true) where
  ceiling-other :
      (u k : ℕ)
      → contains xs u ≡ false
      → owner_of S k ≡ Some u
      → ceiling_of (with_ceiling S m c) k ≡ ceiling_of S k
  ceiling-other u k out e =
      ap (λ p. unwrap_or (ceiling p) 0)
      (protocol-other S m k c
      (λ same. apart xs u u out (owner u (ap (owner_of S) (sym same) ∙ e)) refl))

  heir-other :
      (u : ℕ) (w : Wait)
      → contains xs u ≡ false
      → wait_of S u ≡ Some w
      → heir_of (with_ceiling S m c) w.mutex ≡ heir_of S w.mutex
  heir-other u w out e = go (owner_of S w.mutex) refl
    where
      go :
          (o : Option ℕ)
          → owner_of S w.mutex ≡ o
          → heir_of (with_ceiling S m c) w.mutex ≡ heir_of S w.mutex
      go None free =
          ap (heir_in _) free
          ∙ heir_in-none _ ∙ sym (ap (heir_in (protocol_of S w.mutex)) free ∙ heir_in-none _)
      go (Some v) owned =
          ap (λ p. heir_in p (owner_of S w.mutex))
          (protocol-other S m w.mutex c (λ same.
          let blocks : blocker S u ≡ Some v = ap (blocker_by S) e ∙ owned in
          apart xs v v
          (sym (closed u v blocks) ∙ out) (owner v (ap (owner_of S) (sym same) ∙ owned)) refl))

  pub around_ceiling : Around S (with_ceiling S m c) (contains xs)
  around_ceiling = record { tasks = refl; same = same; closed = closed; closed_after = closed }
    where
      same : (u : ℕ) → contains xs u ≡ false → IsSame S (with_ceiling S m c) u
      same u out = record {
        base = refl;
        own =
            le_antisymm
            (own-le (with_ceiling S m c) u (own_priority S u) (base-le-own S u)
            (λ k e. omega (arith, ceiling-other u k out e, ceiling-le-own S k u whole e)))
            (own-le S u (own_priority (with_ceiling S m c) u) (base-le-own (with_ceiling S m c) u)
            (λ k e. omega
            (arith, ceiling-other u k out e, ceiling-le-own (with_ceiling S m c) k u after e)));
        wait = λ v e. refl;
        blocker = refl;
        heir = go (wait_of S u) refl;
      }
        where
          go : (w : Option Wait) → wait_of S u ≡ w → heir (with_ceiling S m c) u ≡ heir S u
          go None e = ap (heir_by (with_ceiling S m c)) e ∙ sym (ap (heir_by S) e)
          go (Some w) e =
              ap (heir_by (with_ceiling S m c)) e ∙ heir-other u w out e ∙ sym (ap (heir_by S) e)

-- ---- another owner
owner-other :
    (S : State) (m : ℕ) (o : Option ℕ) (k : ℕ)
    → (k ≡ m → ⊥)
    → owner_of (with_owner S m o) k ≡ owner_of S k
owner-other S m o k ne = ap (λ v. unwrap_or v None) (nth-put_other S.owner m k o (λ e. ne (sym e)))

owner-now :
    (S : State) (m : ℕ) (o : Option ℕ) (k t : ℕ)
    → k ≡ m
    → owner_of (with_owner S m o) k ≡ Some t
    → o ≡ Some t
owner-now S m o k t same e =
    sym (ap (λ b. cond b o (owner_of S k)) (eq-eqb k m same)) ∙ owner-put S m k o t e

module _ (S : State)
    (m : ℕ) (o : Option ℕ) (whole : IsWhole S) (after : IsWhole (with_owner S m o)) where
  -- a thread that doesn't wait for the mutex
  stays :
      (u : ℕ)
      → (awaited_of S u ≡ Some m → ⊥)
      → (blocker (with_owner S m o) u ≡ blocker S u) × (heir (with_owner S m o) u ≡ heir S u)
  stays u elsewhere = go (wait_of S u) refl
    where
      go :
          (w : Option Wait)
          → wait_of S u ≡ w
          → (blocker (with_owner S m o) u ≡ blocker S u) × (heir (with_owner S m o) u ≡ heir S u)
      go None e = (
        ap (blocker_by (with_owner S m o)) e ∙ sym (ap (blocker_by S) e),
        ap (heir_by (with_owner S m o)) e ∙ sym (ap (heir_by S) e),
      )
      go (Some w) e =
          let other : owner_of (with_owner S m o) w.mutex ≡ owner_of S w.mutex =
          owner-other S m o w.mutex
          (λ same. elsewhere (ap (option_map (λ (w : Wait). w.mutex)) e ∙ ap Some same)) in (
            ap (blocker_by (with_owner S m o)) e ∙ other ∙ sym (ap (blocker_by S) e),
            ap (heir_by (with_owner S m o)) e
                ∙ ap (heir_in (protocol_of S w.mutex)) other ∙ sym (ap (heir_by S) e),
          )

  -- a thread to which the mutex gives nothing, before and after
  own_stays :
      (u : ℕ)
      → (ceiling_of S m ≡ 0) ⊎ ((owner_of S m ≡ Some u → ⊥) × (o ≡ Some u → ⊥))
      → own_priority (with_owner S m o) u ≡ own_priority S u
  own_stays u nothing = le_antisymm
      (own-le (with_owner S m o) u (own_priority S u) (base-le-own S u) less)
      (own-le S u (own_priority (with_owner S m o) u) (base-le-own (with_owner S m o) u) more)
    where
      less : (k : ℕ) → owner_of (with_owner S m o) k ≡ Some u → ceiling_of S k ≤ own_priority S u
      less k e = elim (cases_eq k m) [
        | inr ne ↦ ceiling-le-own S k u whole (sym (owner-other S m o k ne) ∙ e)
        | inl same ↦ elim nothing [
          | inl none ↦ omega (arith, ap (ceiling_of S) same, none)
          | inr neither ↦ absurd (neither.1 (owner-now S m o k u same e))
        ]
      ]

      more : (k : ℕ) → owner_of S k ≡ Some u → ceiling_of S k ≤ own_priority (with_owner S m o) u
      more k e = elim (cases_eq k m) [
        | inr ne ↦ ceiling-le-own (with_owner S m o) k u after (owner-other S m o k ne ∙ e)
        | inl same ↦ elim nothing [
          | inl none ↦ omega (arith, ap (ceiling_of S) same, none)
          | inr neither ↦ absurd (neither.0 (ap (owner_of S) (sym same) ∙ e))
        ]
      ]

  same_at :
      (u : ℕ)
      → (awaited_of S u ≡ Some m → ⊥)
      → (ceiling_of S m ≡ 0) ⊎ ((owner_of S m ≡ Some u → ⊥) × (o ≡ Some u → ⊥))
      → IsSame S (with_owner S m o) u
  same_at u elsewhere nothing = record {
    base = refl;
    own = own_stays u nothing;
    wait = λ v e. refl;
    blocker = (stays u elsewhere).0;
    heir = (stays u elsewhere).1;
  }

  around_idle :
      (xs : List ℕ)
      → IsClosed S xs
      → IsIdle S m
      → Around S (with_owner S m o) (contains xs)
  around_idle xs closed idle = record {
    tasks = refl;
    same = λ u out. same_at u (idle.unawaited u) (inl idle.ceiling);
    closed = closed;
    closed_after = λ t u e. closed t u (sym (stays t (idle.unawaited t)).0 ∙ e);
  }

  around_sides :
      (xs : List ℕ)
      → IsClosed S xs
      → HasSides S m o xs
      → Around S (with_owner S m o) (contains xs)
  around_sides xs closed sides = record {
    tasks = refl;
    same = λ u out.
        same_at u (λ e. apart xs u u out (sides.waiting u e) refl)
        (inr (
          (λ e. apart xs u u out (sides.before u e) refl),
          (λ e. apart xs u u out (sides.after u e) refl),
        ));
    closed = closed;
    closed_after = closed_after;
  }
    where
      closed_after :
          (t u : ℕ)
          → blocker (with_owner S m o) t ≡ Some u
          → contains xs t ≡ contains xs u
      closed_after t u e =
          let way : Through (with_owner S m o) t u = through (with_owner S m o) t u e in
          elim (cases_eq way.mutex m) [
            | inl same ↦
                sides.waiting t (way.awaits ∙ ap Some same)
                ∙ sym (sides.after u (owner-now S m o way.mutex u same way.owner))
            | inr ne ↦ closed t u
                (sym (stays t (λ h. ne (same_Some way.mutex m (sym way.awaits ∙ h)))).0 ∙ e)
          ]

  pub around_owner :
      (xs : List ℕ)
      → IsClosed S xs
      → IsIdle S m ⊎ HasSides S m o xs
      → Around S (with_owner S m o) (contains xs)
  around_owner xs closed sides =
      elim sides [ inl idle ↦ around_idle xs closed idle | inr all ↦ around_sides xs closed all ]

-- ---- another wait
blocker_by-wait_for :
    (S : State) (m : Option ℕ)
    → blocker_by S (option_map wait_for m) ≡ option_and_then (owner_of S) m
blocker_by-wait_for S None = refl
blocker_by-wait_for S (Some m) = refl

heir-none : (S : State) (t : ℕ) → blocker S t ≡ None → heir S t ≡ None
heir-none S t e = go (heir S t) refl
  where
    go : (o : Option ℕ) → heir S t ≡ o → o ≡ None
    go None h = refl
    go (Some u) h = absurd (none-some u (sym e ∙ heir-blocker S t u h))

module _ (S : State) (t : ℕ) (m : Option ℕ) (lists : IsState S) (task : IsTask S t) where
  abbrev T : State
  T = with_wait S t (option_map wait_for m)

  wait-other : (u : ℕ) → (u ≡ t → ⊥) → wait_of T u ≡ wait_of S u
  wait-other u ne =
      ap (λ v. unwrap_or v None)
      (nth-put_other S.wait t u (option_map wait_for m) (λ e. ne (sym e)))

  blocker-now : blocker T t ≡ option_and_then (owner_of S) m
  blocker-now =
      ap (λ v. blocker_by S (unwrap_or v None))
      (nth-put_same S.wait t (option_map wait_for m) task.0 (omega (arith, task, lists.waits)))
      ∙ blocker_by-wait_for S m

  same_other : (u : ℕ) → (u ≡ t → ⊥) → IsSame S T u
  same_other u ne = record {
    base = refl;
    own = refl;
    wait = λ v e. wait-other u ne;
    blocker = ap (blocker_by S) (wait-other u ne);
    heir = ap (heir_by S) (wait-other u ne);
  }

  around_free : (xs : List ℕ) → IsClosed S xs → IsFree S t m → Around S T (contains xs)
  around_free xs closed free = record {
    tasks = refl;
    same = λ u out. all u;
    closed = closed;
    closed_after = λ x u e. closed x u (sym (all x).blocker ∙ e);
  }
    where
      now : blocker T t ≡ None
      now = blocker-now ∙ free.after

      all : (u : ℕ) → IsSame S T u
      all u = elim (cases_eq u t) [
        | inr ne ↦ same_other u ne
        | inl same ↦
            subst (IsSame S T) (sym same) (record {
              base = refl;
              own = refl;
              wait = λ v e. absurd (none-some v (sym free.before ∙ e));
              blocker = now ∙ sym free.before;
              heir = heir-none T t now ∙ sym (heir-none S t free.before);
            })
      ]

  around_ends : (xs : List ℕ) → IsClosed S xs → HasEnds S t m xs → Around S T (contains xs)
  around_ends xs closed ends = record {
    tasks = refl;
    same = λ u out. same_other u (apart xs u t out ends.thread);
    closed = closed;
    closed_after = λ x u e. elim (cases_eq x t) [
      | inl same ↦
          ap (contains xs) same
          ∙ ends.thread ∙ sym (ends.after u (sym blocker-now ∙ ap (blocker T) (sym same) ∙ e))
      | inr ne ↦ closed x u (sym (same_other x ne).blocker ∙ e)
    ];
  }

  pub around_wait :
      (xs : List ℕ)
      → IsClosed S xs
      → IsFree S t m ⊎ HasEnds S t m xs
      → Around S T (contains xs)
  around_wait xs closed ends =
      elim ends [ inl free ↦ around_free xs closed free | inr all ↦ around_ends xs closed all ]
