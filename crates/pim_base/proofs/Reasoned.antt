-- The reason of a priority gives that priority.
use Rattle.std.proofs.Common.{◌≡◌, ◌≢◌, ◌⊎◌, inl, inr, ℕ, zero, suc, ◌+◌, ◌<◌, ◌≤◌, max, Bool, true, false, cond, ◌||◌, List, [], ◌∷◌, map, filter, find, length, Option, Some, None, refl, sym, ◌∙◌, ap, subst, arith, eqb, option_and_then, eq-or-lt_of_le, le_antisymm, All, AllPairs, rules}
use Rattle.std.specs.List.{slice_index_or}
use Rattle.std.specs.Option.{option_map_or, option_map}
use Rattle.std.proofs.lemmas.List.Folds.{Any-from_list_any, list_any_at}
use Rattle.std.specs.List.{range_with_len, list_any}
use Rattle.std.proofs.lemmas.Bool.{cases_lt, both_ways, eqb-true, eq-eqb, and_from}
use Rattle.std.proofs.lemmas.Option.{none-some, same_Some}
use Rattle.pim_base.specs.Lists.{holds, first_item}
use Rattle.pim_base.specs.State.{State, IsTask, IsMutex, base_of, owner_of, protocol_of, wait_of, owned}
use Rattle.pim_base.specs.Chains.{heir, heir_in, heir_of}
use Rattle.pim_base.specs.Priorities.{ceiling_of, effective_priority}
use Rattle.pim_base.specs.Queues.{Precedes, waiter_of, queue_of}
use Rattle.pim_base.specs.Reasons.{is_inherit, donates}
use Rattle.pim_base.specs.Steady.{IsSteady}
use Rattle.pim_base.specs.Laws.{IsQueueOfWaiters, Gives, ReasonLaw}
use Rattle.pim_base.specs.declared.steps.Protocol.{Protocol}
use Rattle.pim_base.specs.declared.steps.Reason.{Reason}
use Rattle.pim_base.specs.declared.steps.Waiter.{Waiter}
use Rattle.pim_base.specs.declared.steps.Wait.{Wait}
use Rattle.pim_base.proofs.Greatest.{greatest_of, greatest-cons, IsReached, greatest_of_reached}
use Rattle.pim_base.proofs.Stored.{heir_in-owner, holds_from, from_holds, local_is, stored_law, effective_priority-le_next}
use Rattle.pim_base.proofs.InOrder.{queue_law, precedes_prio, WaitsFor, waits_for, waiter_of-waits}
use Rattle.pim_base.proofs.Effective.{known_from_owner}

-- what a search finds passes both tests
found_passes : (p q : ℕ → Bool) (xs : List ℕ) (m : ℕ) → find p (filter q xs) ≡ Some m → (p m ≡ true) × (q m ≡ true)
found_passes p q [] m e = cc
found_passes p q (x ∷ xs) m e = go (found_passes p q xs m) (q x) refl e
  where
    rest : List ℕ
    rest = filter q xs

    here :
        (find p rest ≡ Some m → (p m ≡ true) × (q m ≡ true))
        → (b : Bool)
        → p x ≡ b
        → q x ≡ true
        → cond b (Some x) (find p rest) ≡ Some m
        → (p m ≡ true) × (q m ≡ true)
    here later true passes also e = let same : x ≡ m = same_Some x m e in (ap p (sym same) ∙ passes, ap q (sym same) ∙ also)
    here later false fails also e = later e

    go :
        (find p rest ≡ Some m → (p m ≡ true) × (q m ≡ true))
        → (b : Bool)
        → q x ≡ b
        → find p (cond b (x ∷ rest) rest) ≡ Some m
        → (p m ≡ true) × (q m ≡ true)
    go later true also e = here later (p x) refl also e
    go later false fails e = later e

-- a search that finds nothing passed nothing over
none_passes :
    (p q : ℕ → Bool) (a n k : ℕ)
    → find p (filter q (range_with_len a n)) ≡ None
    → a ≤ k
    → k < a + n
    → q k ≡ true
    → p k ≡ false
none_passes p q a zero k e low high also = absurd (omega arith)
none_passes p q a (suc n) k e low high also = elim (eq-or-lt_of_le low) [
  | inl same ↦ first (p a) refl (ap q same ∙ also) same
  | inr less ↦ none_passes p q (a + 1) n k (later (q a) e) (omega (arith, less)) (omega arith) also
]
  where
    rest : List ℕ
    rest = filter q (range_with_len (a + 1) n)

    behind : (b : Bool) → cond b (Some a) (find p rest) ≡ None → find p rest ≡ None
    behind true e = cc
    behind false e = e

    later : (b : Bool) → find p (cond b (a ∷ rest) rest) ≡ None → find p rest ≡ None
    later true e = behind (p a) e
    later false e = e

    first : (b : Bool) → p a ≡ b → q a ≡ true → a ≡ k → p k ≡ false
    first false fails passes same = ap p (sym same) ∙ fails
    first true holds' passes same =
        let found : find p (filter q (range_with_len a (suc n))) ≡ Some a = rw (passes, holds') refl in
        absurd (none-some a (sym e ∙ found))

inherit_from_heir : (p : Protocol) (o : Option ℕ) (t : ℕ) → heir_in p o ≡ Some t → is_inherit p ≡ true
inherit_from_heir p o t h = search rules

-- the first of a queue with a waiter at t's priority waits at it for t
first_donates :
    (S : State) (t m : ℕ)
    → IsSteady S
    → IsTask S t
    → heir_of S m ≡ Some t
    → (q : List Waiter)
    → queue_of S m ≡ q
    → list_any (λ w. eqb w.prio (effective_priority S t)) q ≡ true
    → Gives S t (option_map_or (λ (w : Waiter). Reason.Waiter w.task m) (first_item q) Reason.Base)
first_donates S t m ok task heir_is [] same any = cc
first_donates S t m ok task heir_is (w ∷ q) same any = (to_t, at_m, le_antisymm low high)
  where
    law : IsQueueOfWaiters S m
    law = queue_law S m ok.tickets

    it : WaitsFor S m w.task w
    it = waits_for S m w.task w (subst (All (λ v. IsTask S v.task × (waiter_of S m v.task ≡ Some v))) same law.waiters 0 w (omega arith)).1

    to_t : heir S w.task ≡ Some t
    to_t = ap (option_and_then (λ (x : Wait). heir_of S x.mutex)) it.waits ∙ ap (heir_of S) it.mutex ∙ heir_is

    at_m : option_map (λ (x : Wait). x.mutex) (wait_of S w.task) ≡ Some m
    at_m = ap (option_map (λ (x : Wait). x.mutex)) it.waits ∙ ap Some it.mutex

    low : effective_priority S w.task ≤ effective_priority S t
    low = effective_priority-le_next S ok.sound w.task t task to_t

    found :
        (b : Bool)
        → eqb w.prio (effective_priority S t) ≡ b
        → (b || list_any (λ v. eqb v.prio (effective_priority S t)) q) ≡ true
        → effective_priority S t ≤ w.prio
    found true here h = omega (arith, eqb-true w.prio (effective_priority S t) here)
    found false here h =
        let one = Any-from_list_any (λ (v : Waiter). eqb v.prio (effective_priority S t)) q h in
        let at : Precedes w (slice_index_or q one.0 one.1) =
        subst (AllPairs Precedes) same law.in_order 0 (suc one.0) one.1 (omega arith) (omega (arith, one.2)) in
        let before : Precedes w one.1 = subst (Precedes w) one.3 at in
        omega (arith, precedes_prio w one.1 before, eqb-true one.1.prio (effective_priority S t) one.4)

    high : effective_priority S t ≤ effective_priority S w.task
    high = omega (arith, found (eqb w.prio (effective_priority S t)) refl any, it.prio)

-- a mutex that gives t this priority
record Donates (S : State) (t prio : ℕ) : Type 0 where
  mutex : ℕ
  known : IsMutex S mutex
  owner : owner_of S mutex ≡ Some t
  donates : donates S prio mutex ≡ true

-- a task whose heir is t waits for a mutex that gives t its priority
donates_from_heir : (S : State) (u t : ℕ) → IsSteady S → IsTask S u → heir S u ≡ Some t → Donates S t (effective_priority S u)
donates_from_heir S u t ok task e = go (wait_of S u) refl e
  where
    e_of : Waiter → Bool
    e_of v = eqb v.prio (effective_priority S u)

    there : (w : Wait) → wait_of S u ≡ Some w → list_any e_of (queue_of S w.mutex) ≡ true
    there w waits =
        let it : Waiter = record { task = u; prio = effective_priority S u; ticket = w.ticket } in
        let c = (queue_law S w.mutex ok.tickets).all u it task (waiter_of-waits S w.mutex u w waits refl) in
        list_any_at e_of (queue_of S w.mutex) c.0 it c.1 (ap e_of c.2 ∙ eq-eqb (effective_priority S u) (effective_priority S u) refl)

    go : (o : Option Wait) → wait_of S u ≡ o → option_and_then (λ (w : Wait). heir_of S w.mutex) o ≡ Some t → Donates S t (effective_priority S u)
    go None waits h = cc
    go (Some w) waits h =
        let owner : owner_of S w.mutex ≡ Some t = heir_in-owner (protocol_of S w.mutex) (owner_of S w.mutex) t h in
        record {
          mutex = w.mutex;
          known = known_from_owner S w.mutex t ok.sound.lists owner;
          owner = owner;
          donates = and_from _ _ (inherit_from_heir (protocol_of S w.mutex) (owner_of S w.mutex) t h) (there w waits);
        }

-- whether the task owns the mutex
abbrev owns : State → ℕ → ℕ → Bool
owns S t m = holds (owner_of S m) t

-- whether the mutex has this ceiling
abbrev at_ceiling : State → ℕ → ℕ → Bool
at_ceiling S p m = eqb (ceiling_of S m) p

-- the greatest ceiling of the mutexes that t owns
abbrev ceilings : State → ℕ → ℕ
ceilings S t = greatest_of (ceiling_of S) (owns S t) (length S.protocol)

-- the greatest priority of the tasks whose heir t is
abbrev donated : State → ℕ → ℕ
donated S t = greatest_of (effective_priority S) (λ u. holds (heir S u) t) (length S.base)

greatest_of_three : (S : State) (t : ℕ) → IsSteady S → IsTask S t → effective_priority S t ≡ max (max (base_of S t) (ceilings S t)) (donated S t)
greatest_of_three S t ok task =
    (stored_law S (effective_priority S) ok.sound).1 (λ u known. refl) t task
    ∙ local_is S (effective_priority S) t
    ∙ ap (λ n. max n (donated S t)) (greatest-cons (base_of S t) (map (ceiling_of S) (owned S t)))

-- a mutex of t with this ceiling
abbrev HasCeiling : State → ℕ → ℕ → Type 0
HasCeiling S t p = IsReached (ceiling_of S) (owns S t) (length S.protocol) p

-- a priority that isn't the base comes from a ceiling or from a waiter
ceiling_or_donates :
    (S : State) (t : ℕ)
    → IsSteady S
    → IsTask S t
    → effective_priority S t ≢ base_of S t
    → HasCeiling S t (effective_priority S t) ⊎ Donates S t (effective_priority S t)
ceiling_or_donates S t ok task other =
    go (greatest_of_reached (ceiling_of S) (owns S t) (length S.protocol))
    (greatest_of_reached (effective_priority S) (λ u. holds (heir S u) t) (length S.base))
  where
    whole : effective_priority S t ≡ max (max (base_of S t) (ceilings S t)) (donated S t)
    whole = greatest_of_three S t ok task

    go :
        (ceilings S t ≡ 0) ⊎ HasCeiling S t (ceilings S t)
        → (donated S t ≡ 0) ⊎ IsReached (effective_priority S) (λ u. holds (heir S u) t) (length S.base) (donated S t)
        → HasCeiling S t (effective_priority S t) ⊎ Donates S t (effective_priority S t)
    go x y = elim (cases_lt (donated S t) (effective_priority S t)) [
      | inl low ↦
          let is : ceilings S t ≡ effective_priority S t = omega (arith, whole, low, other) in
          elim x [
            | inl none ↦ absurd (omega (arith, is, none, whole, other))
            | inr k ↦ inl (k.0, k.1, k.2, k.3, k.4 ∙ is)
          ]
      | inr high ↦
          let is : donated S t ≡ effective_priority S t = omega (arith, whole, high) in
          elim y [
            | inl none ↦ absurd (omega (arith, is, none, whole, other))
            | inr u ↦ inr (subst (Donates S t) (u.4 ∙ is) (donates_from_heir S u.0 t ok (u.1, u.2) (from_holds (heir S u.0) t u.3)))
          ]
    ]

-- so one of the two searches finds a mutex
one_is_found :
    (S : State) (t : ℕ)
    → IsSteady S
    → IsTask S t
    → effective_priority S t ≢ base_of S t
    → find (at_ceiling S (effective_priority S t)) (owned S t) ≡ None
    → find (donates S (effective_priority S t)) (owned S t) ≡ None
    → ⊥
one_is_found S t ok task other no_ceiling no_source = elim (ceiling_or_donates S t ok task other) [
  | inl k ↦
      both_ways (at_ceiling S e k.0)
      (none_passes (at_ceiling S e) (owns S t) 1 (length S.protocol) k.0 no_ceiling k.1 (omega (arith, k.2)) k.3)
      (eq-eqb (ceiling_of S k.0) e k.4)
  | inr l ↦
      both_ways (donates S e l.mutex)
      (none_passes (donates S e) (owns S t) 1 (length S.protocol) l.mutex no_source l.known.0 (omega (arith, l.known.1))
      (holds_from (owner_of S l.mutex) t l.owner))
      l.donates
]
  where
    e : ℕ
    e = effective_priority S t

pub reason_law : ReasonLaw
reason_law S t ok task = grind (arith, one_is_found, found_passes, first_donates, greatest_of_three)
