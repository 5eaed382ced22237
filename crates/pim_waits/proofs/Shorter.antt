-- Ways with a thread twice, and ways without the part between.
use Rattle.std.proofs.Common.{◌≡◌, ℕ, zero, suc, ◌+◌, ◌-◌, ◌<◌, ◌≤◌, true, false, Bool, ◌||◌, ◌⊎◌}
use Rattle.std.proofs.Common.{inl, inr, eqb, List, [], ◌∷◌, length, Option, Some, refl, ◌∙◌, arith}
use Rattle.std.specs.List.{IsDistinct, AllByRecursion}
use Rattle.std.proofs.lemmas.Bool.{cases_lt, true≢false}
use Rattle.std.proofs.lemmas.Map.Steps.{length-le_from_distinct_below}
use Rattle.pim_base.specs.Lists.{contains}
use Rattle.pim_base.specs.Chains.{chain}
use Rattle.pim_base.proofs.Hops.{hops, Reaches, reaches_from_contains, first_hop, hops_front}
use Rattle.pim_base.proofs.Hops.{hops-add, hops_rest, OnlyKnownHop, length-chain, known_on_chain}
use Rattle.pim_waits.proofs.Lists.{contains_cases, is_false}

-- the same thread after i and after j hops
record Repeats (hop : ℕ → Option ℕ) (n t : ℕ) : Type 0 where
  i : ℕ
  j : ℕ
  thread : ℕ
  apart : i < j
  within : j ≤ n
  early : hops hop i t ≡ Some thread
  late : hops hop j t ≡ Some thread

apart_from :
    (t : ℕ) (xs : List ℕ)
    → contains xs t ≡ false
    → AllByRecursion (λ y. eqb t y ≡ false) xs
apart_from t [] h = tt
apart_from t (x ∷ xs) h = go (apart_from t xs) (eqb t x) refl h
  where
    go :
        (contains xs t ≡ false → AllByRecursion (λ y. eqb t y ≡ false) xs)
        → (b : Bool)
        → eqb t x ≡ b
        → (b || contains xs t) ≡ false
        → AllByRecursion (λ y. eqb t y ≡ false) (x ∷ xs)
    go rest true e h = absurd (true≢false h)
    go rest false e h = (e, rest h)

-- all threads on the way are apart, or one is there twice
repeats_or_distinct :
    (hop : ℕ → Option ℕ) (n t u : ℕ)
    → hops hop n t ≡ Some u
    → Repeats hop n t ⊎ IsDistinct eqb (chain hop n t)
unfolding IsDistinct
repeats_or_distinct hop zero t u e = inr (tt, tt)
repeats_or_distinct hop (suc n) t u e =
    let f = first_hop hop n t u e in
    elim (repeats_or_distinct hop n f.0 u f.2) [
      | inl r ↦ inl (record {
        i = suc r.i;
        j = suc r.j;
        thread = r.thread;
        apart = omega (arith, r.apart);
        within = omega (arith, r.within);
        early = hops_front hop r.i t f.0 f.1 ∙ r.early;
        late = hops_front hop r.j t f.0 f.1 ∙ r.late;
      })
      | inr distinct ↦ go f.0 f.1 distinct (contains (chain hop n f.0) t) refl
    ]
  where
    go :
        (v : ℕ)
        → hop t ≡ Some v
        → IsDistinct eqb (chain hop n v)
        → (b : Bool)
        → contains (chain hop n v) t ≡ b
        → Repeats hop (suc n) t ⊎ IsDistinct eqb (chain hop (suc n) t)
    go v to distinct true h =
        let r : Reaches hop n v t = reaches_from_contains hop n v t h in
        inl (record {
          i = 0;
          j = suc r.0;
          thread = t;
          apart = omega arith;
          within = omega (arith, r.1);
          early = refl;
          late = hops_front hop r.0 t v to ∙ r.2;
        })
    go v to distinct false h = inr (rw to (apart_from t (chain hop n v) h, distinct))

-- a place on the way, and the next one
split_at :
    (hop : ℕ → Option ℕ) (n k t u : ℕ)
    → n < k
    → hops hop k t ≡ Some u
    → (v : ℕ) × (hops hop n t ≡ Some v) × ((w : ℕ) × (hop v ≡ Some w))
split_at hop zero zero t u long e = absurd (omega arith)
split_at hop zero (suc k) t u long e = let f = first_hop hop k t u e in (t, refl, (f.0, f.1))
split_at hop (suc n) zero t u long e = absurd (omega arith)
split_at hop (suc n) (suc k) t u long e =
    let f = first_hop hop k t u e in
    let rest = split_at hop n k f.0 u (omega arith) f.2 in
    (rest.0, hops_front hop n t f.0 f.1 ∙ rest.1, rest.2)

-- more hops than there are threads lead through a thread twice
long_repeats :
    (hop : ℕ → Option ℕ) (n k t u : ℕ)
    → OnlyKnownHop hop n
    → n < k
    → hops hop k t ≡ Some u
    → Repeats hop n t
unfolding IsDistinct
long_repeats hop n k t u known long e = elim (repeats_or_distinct hop n t v to_v) [
  | inl r ↦ r
  | inr distinct ↦
      let none : contains (chain hop n t) 0 ≡ false =
      is_false (contains (chain hop n t) 0) zero_on in
      let all : IsDistinct eqb (0 ∷ chain hop n t) =
      (apart_from 0 (chain hop n t) none, distinct) in
      let small : (q : ℕ) → contains (0 ∷ chain hop n t) q ≡ true → q < suc n =
      λ q m. elim (contains_cases 0 (chain hop n t) q m) [
        | inl h ↦ omega (arith, h)
        | inr h ↦ omega (arith, on q h)
      ] in
      let bound : length (0 ∷ chain hop n t) ≤ suc n =
      length-le_from_distinct_below (0 ∷ chain hop n t) (suc n) all small in
      absurd (omega (arith, bound, length-chain hop n t v to_v))
]
  where
    mid : (v : ℕ) × (hops hop n t ≡ Some v) × ((w : ℕ) × (hop v ≡ Some w))
    mid = split_at hop n k t u long e

    v : ℕ
    v = mid.0

    to_v : hops hop n t ≡ Some v
    to_v = mid.1

    on : (q : ℕ) → contains (chain hop n t) q ≡ true → (1 ≤ q) × (q ≤ n)
    on q h =
        known_on_chain hop n known n t v q to_v
        (known v mid.2.0 mid.2.1) (reaches_from_contains hop n t q h)

    zero_on : contains (chain hop n t) 0 ≡ true → ⊥
    zero_on h = absurd (omega (arith, on 0 h))

-- what is reached is reached by as many hops as there are threads, or by fewer
pub shorter :
    (hop : ℕ → Option ℕ) (n : ℕ)
    → OnlyKnownHop hop n
    → (fuel k t u : ℕ)
    → k ≤ fuel
    → hops hop k t ≡ Some u
    → Reaches hop n t u
shorter hop n known zero k t u enough e = (k, omega arith, e)
shorter hop n known (suc fuel) k t u enough e = elim (cases_lt n k) [
  | inr short ↦ (k, short, e)
  | inl long ↦
      let r : Repeats hop n t = long_repeats hop n k t u known long e in
      let rest : hops hop (k - r.j) r.thread ≡ Some u =
      hops_rest hop r.j k t r.thread (omega (arith, r.within)) r.late ∙ e in
      shorter hop n known fuel (r.i + (k - r.j)) t u
      (omega (arith, r.apart, r.within)) (hops-add hop r.i (k - r.j) t r.thread r.early ∙ rest)
]
