-- Operations on lists and options that the definitions use.
use Rattle.std.specs.Prelude.{ℕ, zero, suc, max, ◌==◌, Bool, false, List, [], ◌∷◌, slice_get, slice_set, if◌then◌else◌, Option, Some, None}
use Rattle.std.specs.List.{fold, range_with_len, list_any}

-- the item with this number, counted from 1
abbrev pub nth : {X : Type 0} → List X → ℕ → Option X
nth xs zero = None
nth xs (suc i) = slice_get xs i

-- the list with another item at this number
abbrev pub put : {X : Type 0} → List X → ℕ → X → List X
put xs zero x = xs
put xs (suc i) x = slice_set xs i x

-- the numbers 1 to n
abbrev pub numbers : ℕ → List ℕ
numbers n = range_with_len 1 n

-- whether the number is in the list
abbrev pub contains : List ℕ → ℕ → Bool
contains xs n = list_any (λ x. n == x) xs

-- the greatest of the numbers, or 0
abbrev pub greatest : List ℕ → ℕ
greatest xs = fold max 0 xs

-- whether the option has this number
abbrev pub holds : Option ℕ → ℕ → Bool
holds None n = false
holds (Some k) n = k == n

-- the first item, if there is one
abbrev pub first_item : {X : Type 0} → List X → Option X
first_item [] = None
first_item (x ∷ xs) = Some x

-- the list with the item inserted in front of the first one that it precedes
abbrev pub insert_by : {X : Type 0} → (X → X → Bool) → List X → X → List X
insert_by precedes [] x = x ∷ []
insert_by precedes (y ∷ ys) x = if precedes x y then x ∷ y ∷ ys else y ∷ insert_by precedes ys x

-- the items in order, by insertion
abbrev pub sort_by : {X : Type 0} → (X → X → Bool) → List X → List X
sort_by precedes xs = fold (insert_by precedes) [] xs
