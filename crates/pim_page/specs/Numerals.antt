-- The digits of a number in four bytes.
use Rattle.std.specs.Prelude.{◌≡◌, ◌≤◌, ◌<◌, ℕ, List, [], length, take, decimal, slice_index, slice_index_or}

-- the digits come first, and the last byte is their count
pub record IsNumeral (n : ℕ) (text : List ℕ) : Type 0 where
  pub least : 1 ≤ slice_index text 3
  pub most : slice_index text 3 ≤ 3
  pub digits : take (slice_index text 3) text ≡ decimal n

-- the digits of the first numbers, in order
pub record AreNumerals (count : ℕ) (texts : List (List ℕ)) : Type 0 where
  pub whole : length texts ≡ count
  pub each : (n : ℕ) → n < length texts → IsNumeral n (slice_index_or texts n [])
