-- The numbers of a set that are left.
use Rattle.std.proofs.Common.{◌≡◌, ◌≢◌, ℕ, ◌+◌, ◌*◌, ◌<◌, ◌≤◌, ◌/◌, ◌%◌, ◌==◌, ◌&&◌, true, false, not, ◌⊎◌, inl, inr, sym, ◌∙◌, arith, List, [], ◌∷◌, slice_index}
use Rattle.std.specs.Int.{bit_at}
use Rattle.std.proofs.lemmas.Bool.{cases_eq}
use Rattle.std.proofs.lemmas.Bool.Decides.{nat_tests}
use Rattle.std.proofs.lemmas.Nat.Bits.{bit_at-zero}
use Rattle.pim_sets.specs.Numbers.{has, members, left_in, is_left, AreTold, IsUnderWay}
use Rattle.pim_sets.proofs.Members.{filter_none, filter_same, filter_least}

-- nothing is left
pub left_none : (words : List ℕ) (filled index word : ℕ) → filled ≡ 0 → word ≡ 0 → left_in words filled index word ≡ []
unfolding left_in
left_none words filled index word no_words no_bits = filter_none (is_left words filled index word) 0 320 (λ k _ _. at k)
  where
    at : (k : ℕ) → is_left words filled index word k ≡ false
    at k = rw (no_words, no_bits) (grind (arith, nat_tests, bit_at-zero))

-- all is left
pub left_all : (words : List ℕ) (filled : ℕ) → AreTold words filled → left_in words filled 0 0 ≡ members words
unfolding left_in members
left_all words filled told =
    filter_same (is_left words filled 0 0) (has words) 0 320
    (λ k _ high. at k (cases_eq (slice_index words (k / 64)) 0) (told (k / 64) (omega (arith, high))))
  where
    at :
        (k : ℕ)
        → (slice_index words (k / 64) ≡ 0) ⊎ (slice_index words (k / 64) ≢ 0)
        → (bit_at filled (k / 64) == 1) ≡ not (slice_index words (k / 64) == 0)
        → is_left words filled 0 0 k ≡ has words k
    at k (inl none) mask = grind (arith, nat_tests, bit_at-zero)
    at k (inr some) mask = grind (arith, nat_tests, bit_at-zero)

-- the next word is entered, and its bit of the mask is cleared
module _ (words : List ℕ) (filled index rest : ℕ)
    (is_set : bit_at filled index ≡ 1)
    (clear : bit_at rest index ≡ 0)
    (others : (i : ℕ) → i < 64 → i ≢ index → bit_at rest i ≡ bit_at filled i) where
  -- the same numbers are left
  pub left_same :
      (before word : ℕ)
      → word ≡ 0
      → left_in words filled before word ≡ left_in words rest index (slice_index words index)
  unfolding left_in
  left_same before word none =
      filter_same (is_left words filled before word) (is_left words rest index (slice_index words index)) 0 320
      (λ k _ high. at k (omega (arith, high)) (cases_eq (k / 64) index))
    where
      at :
          (k : ℕ)
          → k / 64 < 64
          → (k / 64 ≡ index) ⊎ (k / 64 ≢ index)
          → is_left words filled before word k ≡ is_left words rest index (slice_index words index) k
      at k low (inl e) = rw (e, none) (grind (arith, nat_tests, bit_at-zero))
      at k low (inr ne) = let same = others (k / 64) low ne in rw none (grind (arith, nat_tests, bit_at-zero))

  -- the iteration is still under way
  pub still_under_way :
      {before word : ℕ}
      → IsUnderWay words filled before word
      → index < 64
      → ((i : ℕ) → i < index → bit_at filled i ≡ 0)
      → IsUnderWay words rest index (slice_index words index)
  still_under_way was within none_below = record {
    small = λ i low on. was.small i low (go i low on (cases_eq i index));
    inside = λ i low on. was.inside i low (go i low on (cases_eq i index));
    nonzero = λ i low on. was.nonzero i low (go i low on (cases_eq i index));
    passed = λ _. (was.small index within is_set, λ i le. before i le (cases_eq i index));
  }
    where
      go : (i : ℕ) → i < 64 → bit_at rest i ≡ 1 → (i ≡ index) ⊎ (i ≢ index) → bit_at filled i ≡ 1
      go i low on (inl e) = cc
      go i low on (inr ne) = sym (others i low ne) ∙ on

      before : (i : ℕ) → i ≤ index → (i ≡ index) ⊎ (i ≢ index) → bit_at rest i ≡ 0
      before i le (inl e) = cc
      before i le (inr ne) = others i (omega arith) ne ∙ none_below i (omega arith)

-- the first number is taken out
pub left_first :
    (words : List ℕ) (filled index word rest place x : ℕ)
    → IsUnderWay words filled index word
    → word ≢ 0
    → place < 64
    → bit_at word place ≡ 1
    → ((i : ℕ) → i < place → bit_at word i ≡ 0)
    → bit_at rest place ≡ 0
    → ((i : ℕ) → i < 64 → i ≢ place → bit_at rest i ≡ bit_at word i)
    → index * 64 + place ≡ x
    → left_in words filled index word ≡ x ∷ left_in words filled index rest
unfolding left_in
left_first words filled index word rest place x was some small is_set none_below clear others is =
    filter_least (is_left words filled index word) (is_left words filled index rest) 0 320 x (omega arith)
    (omega (arith, small, is, (was.passed some).0)) here
    (λ k less. before k less (cases_eq (k / 64) index))
    (λ k. after k (cases_eq (k / 64) index) (cases_eq k x))
  where
    here : is_left words filled index word x ≡ true
    here =
        let at : x / 64 ≡ index = omega (arith, is, small) in
        let bit : x % 64 ≡ place = omega (arith, is, small) in
        rw (at, bit) (grind (arith, nat_tests))

    before : (k : ℕ) → k < x → (k / 64 ≡ index) ⊎ (k / 64 ≢ index) → is_left words filled index word k ≡ false
    before k less (inl e) =
        let none = none_below (k % 64) (omega (arith, e, less, is)) in
        let passed = (was.passed some).1 (k / 64) (omega (arith, e)) in
        grind (arith, nat_tests)
    before k less (inr ne) =
        let passed = (was.passed some).1 (k / 64) (omega (arith, less, is, small)) in
        grind (arith, nat_tests)

    after :
        (k : ℕ)
        → (k / 64 ≡ index) ⊎ (k / 64 ≢ index)
        → (k ≡ x) ⊎ (k ≢ x)
        → is_left words filled index rest k ≡ (not (k == x) && is_left words filled index word k)
    after k (inl e) (inl same) =
        let bit : k % 64 ≡ place = omega (arith, same, is, small) in
        let passed = (was.passed some).1 (k / 64) (omega (arith, e)) in
        rw bit (grind (arith, nat_tests))
    after k (inl e) (inr other) =
        let bit = others (k % 64) (omega arith) (λ p. other (omega (arith, e, is, p))) in
        grind (arith, nat_tests)
    after k (inr ne) (inl same) = absurd (ne (omega (arith, same, is, small)))
    after k (inr ne) (inr other) = grind (arith, nat_tests)
