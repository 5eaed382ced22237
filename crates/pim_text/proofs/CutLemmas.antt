-- A list of bytes, cut at the first separator.
use Rattle.std.proofs.Common.{◌≡◌, ℕ, ◌+◌, Bool, List, [], ◌∷◌, take, drop, Some, None, arith}
use Rattle.std.specs.List.{slice_split, position}
use Rattle.std.proofs.lemmas.List.Splits.{slice_split_first, slice_split_none}
use Rattle.std.proofs.lemmas.List.Sums.{fails_before_first}

-- at the place of the first that passes
pub split_at_place :
    (p : ℕ → Bool) (xs : List ℕ) (i : ℕ)
    → position p xs ≡ Some i
    → slice_split p xs ≡ take i xs ∷ slice_split p (drop (i + 1) xs)
split_at_place p xs i e = grind (arith, slice_split_first)

-- no cut, if no byte passes
pub split_nowhere : (p : ℕ → Bool) (xs : List ℕ) → position p xs ≡ None → slice_split p xs ≡ xs ∷ []
split_nowhere p xs e = grind (arith, slice_split_none, fails_before_first)
