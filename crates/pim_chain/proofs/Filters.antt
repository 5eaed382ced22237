-- The numbers of a range that pass a test.
use Rattle.std.proofs.Common.{◌≡◌, ◌≢◌, ◌<◌, ◌≤◌, ℕ, zero, suc, ◌+◌, Bool, true, false, List, [], ◌∷◌, filter, length, refl, arith}
use Rattle.std.proofs.lemmas.Bool.{both_ways, false_from_ne_true}
use Rattle.std.proofs.lemmas.List.Sums.{length-filter, count_by-le-length}
use Rattle.std.proofs.lemmas.List.{nil_from_length}
use Rattle.std.proofs.lemmas.List.FromFn.{length-range_with_len}
use Rattle.std.specs.List.{range_with_len}
use Rattle.pim_base.specs.Lists.{numbers}
use Rattle.pim_base.specs.Counts.{count}
use Rattle.pim_base.proofs.Counting.{count-length}
use Rattle.pim_sets.proofs.Members.{filter_same}
use Rattle.pim_chain.proofs.Walking.{count_none, count_either}

-- no more pass than there are
pub few_pass : (p : ℕ → Bool) (a n : ℕ) → length (filter p (range_with_len a n)) ≤ n
few_pass p a n =
    omega (arith, length-filter p (range_with_len a n), count_by-le-length p (range_with_len a n), length-range_with_len a n)

-- the first number that passes
pub record IsFirst (p : ℕ → Bool) (a n m : ℕ) : Type 0 where
  pub low : a ≤ m
  pub high : m < a + n
  pub passes : p m ≡ true

pub first_passes : (p : ℕ → Bool) (a n m : ℕ) (xs : List ℕ) → filter p (range_with_len a n) ≡ m ∷ xs → IsFirst p a n m
first_passes p a zero m xs h = cc
first_passes p a (suc n) m xs h = grind (arith, first_passes p (a + 1) n m xs)

-- if only the first number passes no more, the others are left
pub filter-rest :
    (p q : ℕ → Bool) (a n m : ℕ) (xs : List ℕ)
    → filter p (range_with_len a n) ≡ m ∷ xs
    → q m ≡ false
    → ((k : ℕ) → m ≢ k → q k ≡ p k)
    → filter q (range_with_len a n) ≡ xs
filter-rest p q a zero m xs h gone same = cc
filter-rest p q a (suc n) m xs h gone same =
    let others : a ≡ m → filter q (range_with_len (a + 1) n) ≡ filter p (range_with_len (a + 1) n) =
    λ is. filter_same q p (a + 1) n (λ k low high. same k (λ e. absurd (omega (arith, low, is, e)))) in
    grind (arith, filter-rest p q (a + 1) n m xs, others, same)

-- if nothing is left, every number fails
pub filter-none : (p : ℕ → Bool) (a n k : ℕ) → filter p (range_with_len a n) ≡ [] → a ≤ k → k < a + n → p k ≡ false
filter-none p a zero k h low high = absurd (omega (arith, low, high))
filter-none p a (suc n) k h low high = grind (arith, filter-none p (a + 1) n k)

-- if the second test holds whenever the first does, at least as many pass it
pub length-le-count :
    (p q : ℕ → Bool) (n : ℕ)
    → ((k : ℕ) → 1 ≤ k → k ≤ n → p k ≡ true → q k ≡ true)
    → length (filter p (numbers n)) ≤ count n q
length-le-count p q n over =
    let less = count_either n p q (λ _. false) (λ k low high fails _. false_from_ne_true _ (λ passes. both_ways _ fails (over k low high passes))) in
    omega (arith, less, count_none n (λ _. false) (λ _. refl), count-length n p)

-- if one passes, the count isn't 0
pub count_one : (n : ℕ) (p : ℕ → Bool) (x : ℕ) → 1 ≤ x → x ≤ n → p x ≡ true → 1 ≤ count n p
count_one n p x low high h = grind (arith, count-length n p, filter-none p 1 n x, nil_from_length (filter p (numbers n)))
