-- The words of a line, and what one of them says.
use Rattle.std.specs.Prelude.{ℕ, ◌^◌, List, length, codes, decimal, Bool, not, ◌&&◌, ◌||◌}
use Rattle.std.specs.Prelude.{Option, Some, None, if◌then◌else◌, nat_lt, nat_le, ◌==◌}
use Rattle.std.specs.List.{slice_split, list_all}
use Rattle.std.specs.Str.{bytes_eq}
use Rattle.std.specs.Str.Parse.{digits_value}

abbrev pub SPACE : ℕ
SPACE = 32

-- the words of these bytes: what is between the spaces
abbrev pub words : List ℕ → List (List ℕ)
words bytes = slice_split (λ b. b == SPACE) bytes

-- the word is this one
abbrev pub is_word : List ℕ → List ℕ → Bool
is_word w name = bytes_eq w name

-- the number of at most 19 digits that a word spells in decimal; a leading zero isn't in the
-- spelling of a number
abbrev pub number_in : List ℕ → Option ℕ
number_in w =
    if nat_lt (digits_value 10 w) (10 ^ 19) && bytes_eq w (decimal (digits_value 10 w))
    then Some (digits_value 10 w)
    else None

-- a letter, a digit or a sign of ASCII
abbrev pub is_sign : ℕ → Bool
is_sign b = nat_le 33 b && nat_le b 126

-- 1 to 64 letters, digits and signs
abbrev pub is_name : List ℕ → Bool
is_name w = nat_le 1 (length w) && nat_le (length w) 64 && list_all is_sign w

-- a word with which a fact could go on in place of a place
abbrev pub is_reserved : List ℕ → Bool
is_reserved w =
    is_word w (codes "by") || is_word w (codes "failed") || is_word w (codes "of")
    || is_word w (codes "timed-out")

-- a place is a name, but not reserved
abbrev pub is_place : List ℕ → Bool
is_place w = not (is_reserved w) && is_name w

-- what an object is
abbrev pub is_kind : List ℕ → Bool
is_kind w =
    is_word w (codes "semaphore") || is_word w (codes "rwlock") || is_word w (codes "barrier")
    || is_word w (codes "thread") || is_word w (codes "condition") || is_word w (codes "futex")
