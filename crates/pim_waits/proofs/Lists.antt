-- Lists of options with one more, and what is in a list.
use Rattle.std.proofs.Common.{◌≡◌, ℕ, zero, suc, ◌<◌, ◌≤◌, ◌==◌, not, ◌⊎◌, Bool, true, false, cond}
use Rattle.std.proofs.Common.{List, [], ◌∷◌, ◌++◌, length, get_or, Option, Some, None, refl, sym}
use Rattle.std.proofs.Common.{◌∙◌, ap, inl, inr, arith, unwrap_or, slice_get, filter}
use Rattle.std.proofs.lemmas.Bool.{or_cases, or_left, or_right, eqb-true, eq-eqb, ne_eqb, cases_eq}
use Rattle.pim_base.specs.Lists.{nth, contains}

slice_get-push_none :
    {X : Type 0} (xs : List (Option X)) (i : ℕ)
    → unwrap_or (slice_get (xs ++ None ∷ []) i) None ≡ unwrap_or (slice_get xs i) None
slice_get-push_none [] zero = refl
slice_get-push_none [] (suc i) = refl
slice_get-push_none (x ∷ xs) zero = refl
slice_get-push_none (x ∷ xs) (suc i) = slice_get-push_none xs i

pub nth-push_none :
    {X : Type 0} (xs : List (Option X)) (n : ℕ)
    → unwrap_or (nth (xs ++ None ∷ []) n) None ≡ unwrap_or (nth xs n) None
nth-push_none xs zero = refl
nth-push_none xs (suc i) = slice_get-push_none xs i

pub contains_cases :
    (x : ℕ) (xs : List ℕ) (n : ℕ)
    → contains (x ∷ xs) n ≡ true
    → (n ≡ x) ⊎ (contains xs n ≡ true)
contains_cases x xs n h =
    elim (or_cases (n == x) (contains xs n) h) [
      | inl here ↦ inl (eqb-true n x here)
      | inr later ↦ inr later
    ]

pub contains-first : (x : ℕ) (xs : List ℕ) (n : ℕ) → n ≡ x → contains (x ∷ xs) n ≡ true
contains-first x xs n same = or_left (n == x) (contains xs n) (eq-eqb n x same)

pub contains-later :
    (x : ℕ) (xs : List ℕ) (n : ℕ)
    → contains xs n ≡ true
    → contains (x ∷ xs) n ≡ true
contains-later x xs n h = or_right (n == x) (contains xs n) h

pub contains-left : (xs ys : List ℕ) (n : ℕ) → contains xs n ≡ true → contains (xs ++ ys) n ≡ true
contains-left [] ys n h = cc
contains-left (x ∷ xs) ys n h = elim (contains_cases x xs n h) [
  | inl here ↦ contains-first x (xs ++ ys) n here
  | inr later ↦ contains-later x (xs ++ ys) n (contains-left xs ys n later)
]

pub contains-push : (xs : List ℕ) (n : ℕ) → contains (xs ++ n ∷ []) n ≡ true
contains-push [] n = contains-first n [] n refl
contains-push (x ∷ xs) n = contains-later x (xs ++ n ∷ []) n (contains-push xs n)

-- a filter that takes out another number
pub contains-without :
    (xs : List ℕ) (out n : ℕ)
    → (n ≡ out → ⊥)
    → contains xs n ≡ true
    → contains (filter (λ other. not (other == out)) xs) n ≡ true
contains-without [] out n ne h = h
contains-without (x ∷ xs) out n ne h = elim (cases_eq x out) [
  | inl is ↦
      ap (λ b. contains (cond (not b) (x ∷ rest) rest) n) (eq-eqb x out is)
      ∙ elim (contains_cases x xs n h) [
        | inl here ↦ absurd (ne (here ∙ is))
        | inr later ↦ contains-without xs out n ne later
      ]
  | inr other ↦
      ap (λ b. contains (cond (not b) (x ∷ rest) rest) n) (ne_eqb x out other)
      ∙ elim (contains_cases x xs n h) [
        | inl here ↦ contains-first x rest n here
        | inr later ↦ contains-later x rest n (contains-without xs out n ne later)
      ]
]
  where
    rest : List ℕ
    rest = filter (λ other. not (other == out)) xs

-- where a number is in a list
pub contains_at :
    (xs : List ℕ) (n : ℕ)
    → contains xs n ≡ true
    → (k : ℕ) × (k < length xs) × (get_or xs k 0 ≡ n)
contains_at [] n h = cc
contains_at (x ∷ xs) n h = elim (contains_cases x xs n h) [
  | inl here ↦ (0, omega arith, sym here)
  | inr later ↦ let at = contains_at xs n later in (suc at.0, omega (arith, at.1), at.2)
]

pub contains-get_or : (xs : List ℕ) (k : ℕ) → k < length xs → contains xs (get_or xs k 0) ≡ true
contains-get_or [] k h = absurd (omega arith)
contains-get_or (x ∷ xs) zero h = contains-first x xs x refl
contains-get_or (x ∷ xs) (suc k) h =
    contains-later x xs (get_or xs k 0) (contains-get_or xs k (omega arith))

-- two tests with the same answer
pub same_tests : (a b : Bool) → (a ≡ true → b ≡ true) → (b ≡ true → a ≡ true) → a ≡ b
same_tests true b there back = sym (there refl)
same_tests false true there back = back refl
same_tests false false there back = refl

pub is_false : (b : Bool) → (b ≡ true → ⊥) → b ≡ false
is_false true h = absurd (h refl)
is_false false h = refl

-- what no list has is past its end
pub past_end : {X : Type 0} (xs : List X) (k : ℕ) → slice_get xs k ≡ None → length xs ≤ k
past_end [] k h = omega arith
past_end (x ∷ xs) zero h = cc
past_end (x ∷ xs) (suc k) h = omega (arith, past_end xs k h)

slice_get-left :
    {X : Type 0} (xs ys : List X) (k : ℕ)
    → k < length xs
    → slice_get (xs ++ ys) k ≡ slice_get xs k
slice_get-left [] ys k h = absurd (omega arith)
slice_get-left (x ∷ xs) ys zero h = refl
slice_get-left (x ∷ xs) ys (suc k) h = slice_get-left xs ys k (omega arith)

-- what is at a place of a list stays there as more is appended
pub nth-left : {X : Type 0} (xs ys : List X) (n : ℕ) → n ≤ length xs → nth (xs ++ ys) n ≡ nth xs n
nth-left xs ys zero h = refl
nth-left xs ys (suc k) h = slice_get-left xs ys k (omega arith)

slice_get-last : {X : Type 0} (xs : List X) (x : X) → slice_get (xs ++ x ∷ []) (length xs) ≡ Some x
slice_get-last [] x = refl
slice_get-last (y ∷ ys) x = slice_get-last ys x

pub nth-last : {X : Type 0} (xs : List X) (x : X) → nth (xs ++ x ∷ []) (suc (length xs)) ≡ Some x
nth-last xs x = slice_get-last xs x

pub nth_none : {X : Type 0} (xs : List X) (n : ℕ) → nth xs n ≡ None → 1 ≤ n → n ≤ length xs → ⊥
nth_none xs zero e low high = absurd (omega arith)
nth_none xs (suc k) e low high = absurd (omega (arith, past_end xs k e))
