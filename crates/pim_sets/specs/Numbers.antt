-- Sets of numbers below 320, a bit for each.
use Rattle.std.specs.Prelude.{◌≡◌, ◌≢◌, ◌<◌, ◌≤◌, ◌==◌, ◌/◌, ◌%◌, ◌&&◌, ◌||◌, ℕ, Bool, not, List, length, slice_index}
use Rattle.std.specs.Int.{bit_at}
use Rattle.std.specs.List.{filter, range_with_len}

-- the bit of the number
abbrev pub bit_of : List ℕ → ℕ → ℕ
bit_of words n = bit_at (slice_index words (n / 64)) (n % 64)

-- whether the number is in the set
abbrev pub has : List ℕ → ℕ → Bool
has words n = bit_of words n == 1

-- the numbers of the set, in ascending order
unfoldable pub members : List ℕ → List ℕ
members words = filter (has words) (range_with_len 0 320)

-- each bit is set if its word isn't empty, and only then
abbrev pub AreTold : List ℕ → ℕ → Type 0
AreTold words filled = (i : ℕ) → i < 64 → (bit_at filled i == 1) ≡ not (slice_index words i == 0)

-- Each word that the mask has is one of the set's, and isn't empty. While the iteration is in a word, the mask has none
-- up to it.
pub record IsUnderWay (words : List ℕ) (filled index word : ℕ) : Type 0 where
  pub small : (i : ℕ) → i < 64 → bit_at filled i ≡ 1 → i < 5
  pub inside : (i : ℕ) → i < 64 → bit_at filled i ≡ 1 → i < length words
  pub nonzero : (i : ℕ) → i < 64 → bit_at filled i ≡ 1 → slice_index words i ≢ 0
  pub passed : word ≢ 0 → (index < 5) × ((i : ℕ) → i ≤ index → bit_at filled i ≡ 0)

-- the number is left: it is in what is left of the word that the iteration is in, or in a word that the mask has
abbrev pub is_left : List ℕ → ℕ → ℕ → ℕ → ℕ → Bool
is_left words filled index word n =
    (n / 64 == index && bit_at word (n % 64) == 1) || (bit_at filled (n / 64) == 1 && has words n)

-- the numbers that are left, in ascending order
unfoldable pub left_in : List ℕ → ℕ → ℕ → ℕ → List ℕ
left_in words filled index word = filter (is_left words filled index word) (range_with_len 0 320)
