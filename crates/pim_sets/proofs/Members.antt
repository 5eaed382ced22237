-- The numbers of a set, in ascending order.
use Rattle.std.proofs.Common.{◌≡◌, ◌≢◌, ℕ, zero, suc, ◌+◌, ◌/◌, ◌%◌, ◌<◌, ◌≤◌, ◌==◌, ◌&&◌, ◌||◌, Bool, true, false, not, cond, ◌⊎◌, inl, inr, refl, ◌∙◌, ap, arith, List, [], ◌∷◌, filter, length}
use Rattle.std.specs.List.{range_with_len}
use Rattle.std.proofs.lemmas.Bool.{cases_eq, cases_lt}
use Rattle.std.proofs.lemmas.Bool.Decides.{nat_tests}
use Rattle.std.proofs.lemmas.Nat.Bits.{bit_at-zero}
use lib.ListN.{get_or-eq_default}
use Rattle.pim_base.specs.Lists.{numbers}
use Rattle.pim_sets.specs.Numbers.{has, members}

-- ---- the numbers of a range that pass a test
-- where each number of the range fails the test, none is given
pub filter_none :
    (p : ℕ → Bool) (a n : ℕ)
    → ((k : ℕ) → a ≤ k → k < a + n → p k ≡ false)
    → filter p (range_with_len a n) ≡ []
filter_none p a zero none = refl
filter_none p a (suc n) none =
    rw (none a (omega arith) (omega arith)) (filter_none p (a + 1) n (λ k low high. none k (omega arith) (omega arith)))

pub filter_same :
    (p q : ℕ → Bool) (a n : ℕ)
    → ((k : ℕ) → a ≤ k → k < a + n → p k ≡ q k)
    → filter p (range_with_len a n) ≡ filter q (range_with_len a n)
filter_same p q a zero same = refl
filter_same p q a (suc n) same =
    let rest = filter_same p q (a + 1) n (λ k low high. same k (omega arith) (omega arith)) in
    rw (same a (omega arith) (omega arith), rest) refl

filter_few : (p : ℕ → Bool) (a n : ℕ) → length (filter p (range_with_len a n)) ≤ n
filter_few p a zero = omega arith
filter_few p a (suc n) = go (p a) (filter_few p (a + 1) n)
  where
    go :
        (b : Bool)
        → length (filter p (range_with_len (a + 1) n)) ≤ n
        → length (cond b (a ∷ filter p (range_with_len (a + 1) n)) (filter p (range_with_len (a + 1) n))) ≤ suc n
    go true few = omega (arith, few)
    go false few = omega (arith, few)

-- what comes after the last that passes adds nothing
filter_prefix :
    (p : ℕ → Bool) (a n m : ℕ)
    → n ≤ m
    → ((k : ℕ) → a + n ≤ k → p k ≡ false)
    → filter p (range_with_len a m) ≡ filter p (range_with_len a n)
filter_prefix p a zero m le none = filter_none p a m (λ k low _. none k (omega (arith, low)))
filter_prefix p a (suc n) zero le none = absurd (omega arith)
filter_prefix p a (suc n) (suc m) le none =
    ap (λ xs. cond (p a) (a ∷ xs) xs) (filter_prefix p (a + 1) n m (omega arith) (λ k low. none k (omega (arith, low))))

-- the least that passes is the first, and the others are those that pass but for it
pub filter_least :
    (p q : ℕ → Bool) (a n x : ℕ)
    → a ≤ x
    → x < a + n
    → p x ≡ true
    → ((k : ℕ) → k < x → p k ≡ false)
    → ((k : ℕ) → q k ≡ (not (k == x) && p k))
    → filter p (range_with_len a n) ≡ x ∷ filter q (range_with_len a n)
filter_least p q a zero x low high passes none others = absurd (omega arith)
filter_least p q a (suc n) x low high passes none others =
    go (cases_eq a x)
    (λ ne. filter_least p q (a + 1) n x (omega (arith, low, ne)) (omega (arith, high)) passes none others)
  where
    go :
        (a ≡ x) ⊎ (a ≢ x)
        → (a ≢ x → filter p (range_with_len (a + 1) n) ≡ x ∷ filter q (range_with_len (a + 1) n))
        → filter p (range_with_len a (suc n)) ≡ x ∷ filter q (range_with_len a (suc n))
    go (inl is) _ =
        let here : p a ≡ true = rw is passes in
        let gone : q a ≡ false = let at = others a in grind (arith, nat_tests) in
        let rest = filter_same p q (a + 1) n (λ k above _. let at = others k in grind (arith, nat_tests)) in
        rw (here, gone, rest, is) refl
    go (inr ne) later =
        let away : p a ≡ false = none a (omega (arith, low, ne)) in
        let gone : q a ≡ false = let at = others a in grind (arith, nat_tests) in
        rw (away, gone) (later ne)

-- where one number more passes, one number more is given
one_more :
    (p q : ℕ → Bool) (a n x : ℕ)
    → a ≤ x
    → x < a + n
    → p x ≡ false
    → ((k : ℕ) → q k ≡ (k == x || p k))
    → length (filter q (range_with_len a n)) ≡ length (filter p (range_with_len a n)) + 1
one_more p q a zero x low high fails others = absurd (omega arith)
one_more p q a (suc n) x low high fails others =
    go (cases_eq a x) (λ ne. one_more p q (a + 1) n x (omega (arith, low, ne)) (omega (arith, high)) fails others)
  where
    go :
        (a ≡ x) ⊎ (a ≢ x)
        → (a ≢ x → length (filter q (range_with_len (a + 1) n)) ≡ length (filter p (range_with_len (a + 1) n)) + 1)
        → length (filter q (range_with_len a (suc n))) ≡ length (filter p (range_with_len a (suc n))) + 1
    go (inl is) _ =
        let here : p a ≡ false = rw is fails in
        let new : q a ≡ true = let at = others a in grind (arith, nat_tests) in
        let rest = filter_same q p (a + 1) n (λ k above _. let at = others k in grind (arith, nat_tests)) in
        rw (here, new, rest) (omega arith)
    go (inr ne) later =
        let same : q a ≡ p a = let at = others a in grind (arith, nat_tests) in
        rw same (each (p a) (later ne))
      where
        each :
            (b : Bool)
            → length (filter q (range_with_len (a + 1) n)) ≡ length (filter p (range_with_len (a + 1) n)) + 1
            → length (cond b (a ∷ filter q (range_with_len (a + 1) n)) (filter q (range_with_len (a + 1) n)))
            ≡ length (cond b (a ∷ filter p (range_with_len (a + 1) n)) (filter p (range_with_len (a + 1) n))) + 1
        each true e = omega (arith, e)
        each false e = e

-- those of the numbers below m that pass are the known numbers that pass another test, where no other number passes
filter_known :
    (p q : ℕ → Bool) (n m : ℕ)
    → suc n ≤ m
    → p 0 ≡ false
    → ((k : ℕ) → 1 ≤ k → k ≤ n → p k ≡ q k)
    → ((k : ℕ) → n < k → p k ≡ false)
    → filter p (range_with_len 0 m) ≡ filter q (numbers n)
filter_known p q n m few nobody same none =
    filter_prefix p 0 (suc n) m few (λ k low. none k (omega (arith, low)))
    ∙ ap (λ b. cond b (0 ∷ filter p (range_with_len 1 n)) (filter p (range_with_len 1 n))) nobody
    ∙ filter_same p q 1 n (λ k low high. same k low (omega (arith, high)))

-- where no number of a range is given, each of them fails the test
none_passes : (p : ℕ → Bool) (a n k : ℕ) → filter p (range_with_len a n) ≡ [] → a ≤ k → k < a + n → p k ≡ false
none_passes p a zero k none low high = absurd (omega arith)
none_passes p a (suc n) k none low high =
    go (p a) refl none (cases_eq a k)
    (λ empty ne. none_passes p (a + 1) n k empty (omega (arith, low, ne)) (omega (arith, high)))
  where
    rest : List ℕ
    rest = filter p (range_with_len (a + 1) n)

    go :
        (b : Bool)
        → p a ≡ b
        → cond b (a ∷ rest) rest ≡ []
        → (a ≡ k) ⊎ (a ≢ k)
        → (rest ≡ [] → a ≢ k → p k ≡ false)
        → p k ≡ false
    go true is empty _ _ = (cc)
    go false is empty (inl here) _ = (cc)
    go false is empty (inr ne) later = later empty ne

-- ---- which numbers a set has
-- a set that has no number has an empty list of members
pub members_empty : (words : List ℕ) → ((k : ℕ) → has words k ≡ false) → members words ≡ []
unfolding members
members_empty words none = filter_none (has words) 0 320 (λ k _ _. none k)

-- a set whose list of members is empty has no number
pub has_none : (words : List ℕ) → length words ≡ 5 → members words ≡ [] → (k : ℕ) → has words k ≡ false
unfolding members
has_none words len none k = go (cases_lt k 320)
  where
    go : (k < 320) ⊎ (320 ≤ k) → has words k ≡ false
    go (inl low) = none_passes (has words) 0 320 k none (omega arith) low
    go (inr past) = rw (get_or-eq_default words 0 {n = k / 64} (omega (arith, past, len)), bit_at-zero) refl

-- a set without words has no number
pub no_number : (k : ℕ) → has [] k ≡ false
no_number k = ap (λ b. b == 1) (bit_at-zero (k % 64))

-- a number that is put in is one more
pub length-inserted :
    (old new : List ℕ) (x : ℕ)
    → x < 320
    → has old x ≡ false
    → ((k : ℕ) → has new k ≡ (k == x || has old k))
    → length (members new) ≡ length (members old) + 1
unfolding members
length-inserted old new x small free put_in = one_more (has old) (has new) 0 320 x (omega arith) small free put_in

-- a number that is taken out is one fewer
pub length-removed :
    (old new : List ℕ) (x : ℕ)
    → x < 320
    → has old x ≡ true
    → ((k : ℕ) → has new k ≡ (not (k == x) && has old k))
    → length (members old) ≡ length (members new) + 1
unfolding members
length-removed old new x small there taken =
    one_more (has new) (has old) 0 320 x (omega arith) small
    (let at = taken x in grind (arith, nat_tests))
    (λ k. each k (cases_eq k x))
  where
    each : (k : ℕ) → (k ≡ x) ⊎ (k ≢ x) → has old k ≡ (k == x || has new k)
    each k (inl is) = let at = taken k in rw is (grind (arith, nat_tests))
    each k (inr ne) = let at = taken k in grind (arith, nat_tests)

-- a set has at most 320 numbers
pub members_few : (words : List ℕ) → length (members words) ≤ 320
unfolding members
members_few words = filter_few (has words) 0 320

-- the set has the known numbers that pass, and no others
pub members_known :
    (words : List ℕ) (q : ℕ → Bool) (n : ℕ)
    → n < 320
    → has words 0 ≡ false
    → ((k : ℕ) → 1 ≤ k → k ≤ n → has words k ≡ q k)
    → ((k : ℕ) → n < k → has words k ≡ false)
    → members words ≡ filter q (numbers n)
unfolding members
members_known words q n few nobody same none = filter_known (has words) q n 320 (omega (arith, few)) nobody same none
