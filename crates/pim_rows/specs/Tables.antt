-- Tables in ascending order of their keys.
use Rattle.std.specs.Prelude.{ℕ, ◌+◌, ◌==◌, Bool, ◌&&◌, ◌||◌, List, [], ◌∷◌, Option, Some, None}
use Rattle.std.specs.Prelude.{unwrap_or, map, sum, slice_get, nat_lt, if◌then◌else◌}
use Rattle.std.specs.List.{position_or_len}
use Rattle.std.specs.Option.{option_and_then}
use Rattle.pim_world.specs.Standing.{Key}
pub use Rattle.pim_world.specs.Standing.{same_key}
use Rattle.std.specs.Ordering.{ordering_then, nat_cmp}
use Rattle.std.specs.declared.cmp.Ordering.{Ordering}

abbrev pub Table : Type 0 → Type 0
Table V = List (Key × V)

-- the first number in which they differ is the smaller
abbrev pub precedes : Key → Key → Bool
precedes j k =
    nat_lt j.0 k.0 || (j.0 == k.0) && (nat_lt j.1 k.1 || (j.1 == k.1) && nat_lt j.2 k.2)

-- the row of the key, or one after it
abbrev pub reaches : {V : Type 0} → Key → Key × V → Bool
reaches k row = same_key row.0 k || precedes k row.0

-- the place of the row of the key, or the one where it belongs
abbrev pub place : {V : Type 0} → Key → Table V → ℕ
place k rows = position_or_len (reaches k) rows

-- what the key has in a row at this place
abbrev pub value_at : {V : Type 0} → Key → Table V → ℕ → Option V
value_at k rows i =
    option_and_then (λ row. if same_key row.0 k then Some row.1 else None) (slice_get rows i)

-- the table in which this is done to what a key has
abbrev pub change : {V : Type 0} → Key → (Option V → V) → Table V → Table V
change k by [] = (k, by None) ∷ []
change k by (row ∷ rows) =
    if same_key row.0 k then (k, by (Some row.1)) ∷ rows
    else if precedes k row.0 then (k, by None) ∷ row ∷ rows
    else row ∷ change k by rows

-- this much more time for a key, if there is one; no row has 0
abbrev pub add : Option Key → ℕ → Table ℕ → Table ℕ
add None time rows = rows
add (Some k) time rows = if time == 0 then rows else change k (λ sum. unwrap_or sum 0 + time) rows

-- all times of a table together
abbrev pub total : Table ℕ → ℕ
total rows = sum (map (λ row. row.1) rows)

-- by the first numbers, or else by the second ones, or else by the third ones
abbrev pub key_cmp : Key → Key → Ordering
key_cmp j k = ordering_then (ordering_then (nat_cmp j.0 k.0) (nat_cmp j.1 k.1)) (nat_cmp j.2 k.2)
