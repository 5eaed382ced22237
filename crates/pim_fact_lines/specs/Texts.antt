-- The lines of a text.
use Rattle.std.specs.Prelude.{ℕ, ◌==◌, List, [], ◌∷◌, codes, Bool}
use Rattle.std.specs.List.{slice_split}
use Rattle.pim_fact_lines.specs.Words.{is_word}

abbrev pub NEWLINE : ℕ
NEWLINE = 10

-- the parts between newlines, without the last if that is empty
abbrev pub without_empty_last : List (List ℕ) → List (List ℕ)
without_empty_last [] = []
without_empty_last ([] ∷ []) = []
without_empty_last ((b ∷ bytes) ∷ []) = (b ∷ bytes) ∷ []
without_empty_last (part ∷ next ∷ parts) = part ∷ without_empty_last (next ∷ parts)

-- the lines of the bytes
abbrev pub lines_of : List ℕ → List (List ℕ)
lines_of bytes = without_empty_last (slice_split (λ b. b == NEWLINE) bytes)

-- the first line of a text
abbrev pub is_header : List ℕ → Bool
is_header line = is_word line (codes "facts 1")
