-- The rows `deadlock` are the cycles of waits.
use Rattle.std.proofs.Common.{◌≡◌, ◌≤◌, ◌<◌, ℕ, zero, suc, ◌+◌, ◌||◌, not, ◌⊎◌}
use Rattle.std.proofs.Common.{inl, inr, Bool, true, false, cond, List, [], ◌∷◌, length, map, drop}
use Rattle.std.proofs.Common.{get_or, Option, Some, None, nat_lt, unwrap_or, refl, sym, ◌∙◌, ap}
use Rattle.std.proofs.Common.{subst, arith, le_antisymm}
use Rattle.std.specs.List.{list_any}
use Rattle.std.specs.Option.{option_map_or}
use Rattle.std.proofs.lemmas.Bool.{cases_eq, cases_lt, ne_eqb, eq-eqb, and_parts, and_from}
use Rattle.std.proofs.lemmas.Bool.{ltb-false, le-ltb}
use Rattle.std.proofs.lemmas.Option.{same_Some}
use Rattle.pim_base.specs.Lists.{contains, nth}
use Rattle.pim_base.specs.State.{State, IsTask}
use Rattle.pim_base.specs.Chains.{chain, blocker}
use Rattle.pim_base.proofs.Closing.{only_known_hop}
use Rattle.pim_base.proofs.Hops.{hops, first_hop, hops_front, hops-add, contains_from_reaches}
use Rattle.pim_base.proofs.Places.{nth-get_or}
use Rattle.pim_waits.specs.Waiting.{way}
use Rattle.pim_waits.proofs.Lists.{contains_cases, contains-first, contains-later}
use Rattle.pim_world.specs.Worlds.{World}
use Rattle.pim_world.specs.Steady.{IsSteady}
use Rattle.pim_world.proofs.Steadiness.{steady_law}
use Rattle.pim_rows.specs.Moments.{now}
use Rattle.pim_world.specs.Standing.{thread_number}
use Rattle.pim_rows.specs.Rows.{before, is_least, is_first_of_cycle, moments_of}
use Rattle.pim_rows.specs.DeadlockRows.{LeadsBack, row_threads, IsDeadlock, DeadlockLaw}
use Rattle.pim_rows.proofs.Cycles.{hops as ahead, drop-chain}
use Rattle.pim_rows.proofs.Inversions.{now-moments_of}

-- ---- the lowest number

all_from_least :
    (f : ℕ → ℕ) (n : ℕ) (ts : List ℕ)
    → is_least n (map f ts) ≡ true
    → (x : ℕ)
    → contains ts x ≡ true
    → n ≤ f x
all_from_least f n [] least x on = cc
all_from_least f n (y ∷ ys) least x on = go (all_from_least f n ys) (nat_lt (f y) n) refl least
  where
    go :
        (is_least n (map f ys) ≡ true → (x : ℕ) → contains ys x ≡ true → n ≤ f x)
        → (b : Bool)
        → nat_lt (f y) n ≡ b
        → not (b || list_any (λ k. nat_lt k n) (map f ys)) ≡ true
        → n ≤ f x
    go rest true is least = cc
    go rest false is least = elim (contains_cases y ys x on) [
      | inl here ↦ let same : f x ≡ f y = ap f here in omega (arith, same, ltb-false (f y) n is)
      | inr later ↦ rest least x later
    ]

least_from_all :
    (f : ℕ → ℕ) (n : ℕ) (ts : List ℕ)
    → ((x : ℕ) → contains ts x ≡ true → n ≤ f x)
    → is_least n (map f ts) ≡ true
least_from_all f n [] all = refl
least_from_all f n (y ∷ ys) all =
    ap (λ b. not (b || list_any (λ k. nat_lt k n) (map f ys)))
    (le-ltb (f y) n (all y (contains-first y ys y refl)))
    ∙ least_from_all f n ys (λ x on. all x (contains-later y ys x on))

-- the item of which this is least
least_item :
    (f : ℕ → ℕ) (t : ℕ) (ts : List ℕ)
    → (x : ℕ) × (contains (t ∷ ts) x ≡ true) × ((y : ℕ) → contains (t ∷ ts) y ≡ true → f x ≤ f y)
least_item f t [] = (
  t,
  contains-first t [] t refl,
  λ y on. elim (contains_cases t [] y on) [
    | inl here ↦ let same : f y ≡ f t = ap f here in omega (arith, same)
    | inr later ↦ absurd (let no : false ≡ true = later in cc)
  ],
)
least_item f t (u ∷ us) =
    let rest = least_item f u us in
    elim (cases_lt (f t) (f rest.0)) [
      | inl lower ↦ (
        t,
        contains-first t (u ∷ us) t refl,
        λ y on. elim (contains_cases t (u ∷ us) y on) [
          | inl here ↦ let same : f y ≡ f t = ap f here in omega (arith, same)
          | inr later ↦ omega (arith, lower, rest.2 y later)
        ],
      )
      | inr least ↦ (
        rest.0,
        contains-later t (u ∷ us) rest.0 rest.1,
        λ y on. elim (contains_cases t (u ∷ us) y on) [
          | inl here ↦ let same : f y ≡ f t = ap f here in omega (arith, same, least)
          | inr later ↦ rest.2 y later
        ],
      )
    ]

-- ---- the threads up to one that comes again

before-length : (t : ℕ) (xs : List ℕ) → contains xs t ≡ true → length (before t xs) < length xs
before-length t [] on = cc
before-length t (u ∷ us) on = elim (cases_eq u t) [
  | inl same ↦ subst (λ b. length (cond b [] (u ∷ before t us)) < suc (length us))
      (sym (eq-eqb u t same)) (omega arith)
  | inr ne ↦ elim (contains_cases u us t on) [
    | inl here ↦ absurd (ne (sym here))
    | inr later ↦
        subst (λ b. length (cond b [] (u ∷ before t us)) < suc (length us)) (sym (ne_eqb u t ne))
        (omega (arith, before-length t us later))
  ]
]

ahead-length : (hop : ℕ → Option ℕ) (n : ℕ) (next : Option ℕ) → length (ahead hop n next) ≤ n
ahead-length hop zero next = omega arith
ahead-length hop (suc n) None = omega arith
ahead-length hop (suc n) (Some u) = omega (arith, ahead-length hop n (hop u))

module _ (S : State) where
  leads_back :
      (n x t : ℕ)
      → contains (ahead (blocker S) n (blocker S x)) t ≡ true
      → LeadsBack S t (x ∷ before t (ahead (blocker S) n (blocker S x)))
  leads_back zero x t on = absurd (let no : false ≡ true = on in cc)
  leads_back (suc n) x t on = go (blocker S x) refl on (leads_back n)
    where
      go :
          (o : Option ℕ)
          → blocker S x ≡ o
          → contains (ahead (blocker S) (suc n) o) t ≡ true
          → ((x t : ℕ) → contains (ahead (blocker S) n (blocker S x)) t ≡ true
          → LeadsBack S t (x ∷ before t (ahead (blocker S) n (blocker S x))))
          → LeadsBack S t (x ∷ before t (ahead (blocker S) (suc n) o))
      go None is on rest = absurd (let no : false ≡ true = on in cc)
      go (Some u) is on rest =
          let us = ahead (blocker S) n (blocker S u) in
          elim (cases_eq u t) [
            | inl same ↦ subst (λ b. LeadsBack S t (x ∷ cond b [] (u ∷ before t us)))
                (sym (eq-eqb u t same)) (is ∙ ap Some same)
            | inr ne ↦ elim (contains_cases u us t on) [
              | inl here ↦ absurd (ne (sym here))
              | inr later ↦
                  subst (λ b. LeadsBack S t (x ∷ cond b [] (u ∷ before t us)))
                  (sym (ne_eqb u t ne)) (is, rest u t later)
            ]
          ]

  -- ---- threads that lead back

  back_all :
      (first t : ℕ) (us : List ℕ)
      → LeadsBack S first (t ∷ us)
      → hops (blocker S) (suc (length us)) t ≡ Some first
  back_all first t [] back = hops_front (blocker S) 0 t first back
  back_all first t (u ∷ us) back =
      hops_front (blocker S) (suc (length us)) t u back.0 ∙ back_all first u us back.1

  -- x is reached from the head by some hops, and `first` from x by the others
  record Trip (first t : ℕ) (us : List ℕ) (x : ℕ) : Type 0 where
    i : ℕ
    j : ℕ
    sum : i + suc j ≡ suc (length us)
    there : hops (blocker S) i t ≡ Some x
    back : hops (blocker S) (suc j) x ≡ Some first

  trip :
      (first t : ℕ) (us : List ℕ) (x : ℕ)
      → LeadsBack S first (t ∷ us)
      → contains (t ∷ us) x ≡ true
      → Trip first t us x
  trip first t [] x back on = elim (contains_cases t [] x on) [
    | inl here ↦ record {
      i = 0;
      j = 0;
      sum = omega arith;
      there = ap Some (sym here);
      back = ap (hops (blocker S) 1) here ∙ back_all first t [] back;
    }
    | inr later ↦ absurd (let no : false ≡ true = later in cc)
  ]
  trip first t (u ∷ us) x back on = elim (contains_cases t (u ∷ us) x on) [
    | inl here ↦ record {
      i = 0;
      j = suc (length us);
      sum = omega arith;
      there = ap Some (sym here);
      back = ap (hops (blocker S) (suc (suc (length us)))) here ∙ back_all first t (u ∷ us) back;
    }
    | inr later ↦
        let r : Trip first u us x = trip first u us x back.1 later in
        record {
          i = suc r.i;
          j = r.j;
          sum = omega (arith, r.sum);
          there = hops_front (blocker S) r.i t u back.0 ∙ r.there;
          back = r.back;
        }
  ]

  next_inside :
      (first t : ℕ) (us : List ℕ) (x y : ℕ)
      → LeadsBack S first (t ∷ us)
      → contains (t ∷ us) x ≡ true
      → blocker S x ≡ Some y
      → (y ≡ first) ⊎ (contains (t ∷ us) y ≡ true)
  next_inside first t [] x y back on to = elim (contains_cases t [] x on) [
    | inl here ↦ inl (same_Some y first (sym to ∙ ap (blocker S) here ∙ back))
    | inr later ↦ absurd (let no : false ≡ true = later in cc)
  ]
  next_inside first t (u ∷ us) x y back on to = elim (contains_cases t (u ∷ us) x on) [
    | inl here ↦
        let same : y ≡ u = same_Some y u (sym to ∙ ap (blocker S) here ∙ back.0) in
        inr (contains-later t (u ∷ us) y (contains-first u us y same))
    | inr later ↦ elim (next_inside first u us x y back.1 later to) [
      | inl is ↦ inl is
      | inr inside ↦ inr (contains-later t (u ∷ us) y inside)
    ]
  ]

  -- whoever is reached from a thread of a cycle is on it
  inside :
      (first : ℕ) (us : List ℕ) (k x y : ℕ)
      → LeadsBack S first (first ∷ us)
      → contains (first ∷ us) x ≡ true
      → hops (blocker S) k x ≡ Some y
      → contains (first ∷ us) y ≡ true
  inside first us zero x y back on to =
      subst (λ z. contains (first ∷ us) z ≡ true) (same_Some x y to) on
  inside first us (suc k) x y back on to =
      let f = first_hop (blocker S) k x y to in
      inside first us k f.0 y back
      (elim (next_inside first first us x f.0 back on f.1) [
        | inl is ↦ contains-first first us f.0 is
        | inr on ↦ on
      ]) f.2

  -- a thread that is back after at most so many hops is on its own chain again
  again :
      (n k x : ℕ)
      → suc k ≤ n
      → hops (blocker S) (suc k) x ≡ Some x
      → contains (drop 1 (chain (blocker S) n x)) x ≡ true
  again zero k x short to = absurd (omega arith)
  again (suc n) k x short to =
      let f = first_hop (blocker S) k x x to in
      ap (λ o. contains (option_map_or (chain (blocker S) n) o []) x) f.1
      ∙ contains_from_reaches (blocker S) n f.0 x k (omega (arith, short)) f.2

-- ---- rows

module _ (w : World) where
  abbrev after_it : ℕ → List ℕ
  after_it t = before t (drop 1 (way w.state t))

  is_cycle :
      (t : ℕ)
      → contains (drop 1 (way w.state t)) t ≡ true
      → LeadsBack w.state t (row_threads w t)
  is_cycle t on =
      let n = length w.state.base in
      let same : drop 1 (way w.state t) ≡ ahead (blocker w.state) n (blocker w.state t) =
      drop-chain (blocker w.state) n t in
      subst (λ us. LeadsBack w.state t (t ∷ before t us)) (sym same)
      (leads_back w.state n t t (ap (λ us. contains us t) (sym same) ∙ on))

  is_short :
      (t : ℕ)
      → contains (drop 1 (way w.state t)) t ≡ true
      → suc (length (after_it t)) ≤ length w.state.base
  is_short t on =
      let n = length w.state.base in
      let same : length (drop 1 (way w.state t))
      ≡ length (ahead (blocker w.state) n (blocker w.state t)) =
      ap length (drop-chain (blocker w.state) n t) in
      omega (
        arith,
        same,
        ahead-length (blocker w.state) n (blocker w.state t),
        before-length t (drop 1 (way w.state t)) on,
      )

  first_parts :
      (t : ℕ)
      → is_first_of_cycle w t ≡ true
      → (contains (drop 1 (way w.state t)) t ≡ true)
      × (is_least (thread_number w t) (map (thread_number w) (row_threads w t)) ≡ true)
  first_parts t e = and_parts _ _ e

  each : (t : ℕ) → is_first_of_cycle w t ≡ true → IsDeadlock w t
  each t e =
      let parts = first_parts t e in
      record {
        back = is_cycle t parts.0;
        least = all_from_least (thread_number w) (thread_number w t) (row_threads w t) parts.1;
      }

  -- t is on the cycle of u, and has the lowest number there
  all :
      (u : ℕ)
      → contains (drop 1 (way w.state u)) u ≡ true
      → (t : ℕ) × (is_first_of_cycle w t ≡ true) × (contains (row_threads w t) u ≡ true)
  all u on = (
    t,
    and_from _ _ returns least,
    inside w.state t (after_it t)
        (suc r.j) t u (is_cycle t returns) (contains-first t (after_it t) t refl) r.back,
  )
    where
      item : (x : ℕ) × (contains (row_threads w u) x ≡ true)
          × ((y : ℕ) → contains (row_threads w u) y ≡ true → thread_number w x ≤ thread_number w y)
      item = least_item (thread_number w) u (after_it u)

      t : ℕ
      t = item.0

      r : Trip w.state u u (after_it u) t
      r = trip w.state u u (after_it u) t (is_cycle u on) item.1

      returns : contains (drop 1 (way w.state t)) t ≡ true
      returns =
          again w.state (length w.state.base) (r.j + r.i) t (omega (arith, r.sum, is_short u on))
          (ap (λ k. hops (blocker w.state) k t)
          (let e : suc (r.j + r.i) ≡ suc r.j + r.i = omega arith in e)
          ∙ hops-add (blocker w.state) (suc r.j) r.i t u r.back ∙ r.there)

      least : is_least (thread_number w t) (map (thread_number w) (row_threads w t)) ≡ true
      least = least_from_all (thread_number w) (thread_number w t) (row_threads w t) (λ x on_t.
          let far : Trip w.state t t (after_it t) x =
          trip w.state t t (after_it t) x (is_cycle t returns) on_t in
          item.2 x (inside w.state u (after_it u) far.i t x (is_cycle u on) item.1 far.there))

  -- ---- numbers

  module _ (s : IsSteady w) where
    known : (t : ℕ) → is_first_of_cycle w t ≡ true → w.thread (thread_number w t) ≡ Some t
    known t e = go t (is_cycle t (first_parts t e).0)
      where
        place : (t : ℕ) → IsTask w.state t → w.thread (thread_number w t) ≡ Some t
        place zero task = absurd (omega (arith, task))
        place (suc i) task =
            let at : nth w.threads (suc i) ≡ Some (get_or w.threads i 0) =
            nth-get_or w.threads (suc i) i 0 (omega arith) (omega (arith, task, s.numbered)) in
            ap (λ o. w.thread (unwrap_or o 0)) at ∙ s.places (get_or w.threads i 0) (suc i) at

        go : (t : ℕ) → LeadsBack w.state t (row_threads w t) → w.thread (thread_number w t) ≡ Some t
        go t back =
            let to = back_all w.state t t (after_it t) back in
            let f = first_hop (blocker w.state) (length (after_it t)) t t to in
            place t (only_known_hop w.state s.state.lists t f.0 f.1)

    -- r has no lower number than t if their rows share a thread
    no_lower :
        (t r u : ℕ)
        → is_first_of_cycle w t ≡ true
        → is_first_of_cycle w r ≡ true
        → contains (row_threads w t) u ≡ true
        → contains (row_threads w r) u ≡ true
        → thread_number w t ≤ thread_number w r
    no_lower t r u first_t first_r on_t on_r =
        let back : Trip w.state r r (after_it r) u =
        trip w.state r r (after_it r) u (each r first_r).back on_r in
        (each t first_t).least r
        (inside w.state t (after_it t) (suc back.j) u r (each t first_t).back on_t back.back)

    once :
        (t r u : ℕ)
        → is_first_of_cycle w t ≡ true
        → is_first_of_cycle w r ≡ true
        → contains (row_threads w t) u ≡ true
        → contains (row_threads w r) u ≡ true
        → t ≡ r
    once t r u first_t first_r on_t on_r =
        let same : thread_number w t ≡ thread_number w r =
        le_antisymm
        (no_lower t r u first_t first_r on_t on_r) (no_lower r t u first_r first_t on_r on_t) in
        same_Some t r (sym (known t first_t) ∙ ap w.thread same ∙ known r first_r)

pub deadlock_law : DeadlockLaw
deadlock_law bytes ls says =
    let w = now (moments_of ls) in
    record {
      each = each w;
      all = all w;
      once = once w (subst IsSteady (sym (now-moments_of ls)) (steady_law bytes ls says));
    }
