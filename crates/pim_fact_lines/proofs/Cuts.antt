-- Bytes, cut at their first space.
use Rattle.std.proofs.Common.{◌≡◌, ℕ, ◌+◌, ◌<◌, Bool, true, false, List, [], ◌∷◌, length, take}
use Rattle.std.proofs.Common.{drop, get_or, Some, None}
use Rattle.std.proofs.Common.{arith, refl, sym, ap, ltb}
use Rattle.std.specs.List.{slice_split, position, position_or_len}
use Rattle.std.proofs.lemmas.Bool.{lt-ltb, le-ltb}
use Rattle.std.proofs.lemmas.List.Splits.{slice_split_first, slice_split_none}
use Rattle.std.proofs.lemmas.List.Sums.{fails_before_first, position_or_len_is}

-- none of the first i passes
abbrev pub NoneBelow : (ℕ → Bool) → List ℕ → ℕ → Type 0
NoneBelow p xs i = (k : ℕ) → k < i → p (get_or xs k 0) ≡ false

-- the first that passes, and none
pub found_at :
    (p : ℕ → Bool) (xs : List ℕ) (i : ℕ)
    → i < length xs
    → NoneBelow p xs i
    → p (get_or xs i 0) ≡ true
    → Some i ≡ position p xs
found_at p xs i inside below here =
    let place : position_or_len p xs ≡ i =
    position_or_len_is p xs i 0 (omega arith) below (λ _. here) in
    let test : ltb (position_or_len p xs) (length xs) ≡ true = lt-ltb _ _ (omega arith) in
    rw test (ap (λ k. Some k) (sym place))

pub found_nowhere : (p : ℕ → Bool) (xs : List ℕ) → NoneBelow p xs (length xs) → None ≡ position p xs
found_nowhere p xs below =
    let place : position_or_len p xs ≡ length xs =
    position_or_len_is p xs (length xs) 0 (omega arith) below (λ inside. absurd (omega arith)) in
    let test : ltb (position_or_len p xs) (length xs) ≡ false = le-ltb _ _ (omega arith) in
    rw test refl

-- at the place of the first that passes
pub split_at_place :
    (p : ℕ → Bool) (xs : List ℕ) (i : ℕ)
    → position p xs ≡ Some i
    → slice_split p xs ≡ take i xs ∷ slice_split p (drop (i + 1) xs)
split_at_place p xs i e = grind (arith, slice_split_first)

-- no cut, if no byte passes
pub split_nowhere : (p : ℕ → Bool) (xs : List ℕ) → position p xs ≡ None → slice_split p xs ≡ xs ∷ []
split_nowhere p xs e = grind (arith, slice_split_none, fails_before_first)
