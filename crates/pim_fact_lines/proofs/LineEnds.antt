-- The lines of the bytes, one after another.
use Rattle.std.proofs.Common.{◌≡◌, ℕ, ◌+◌, ◌<◌, List, [], ◌∷◌, take, drop, arith, refl, sym, ap}
use Rattle.std.proofs.Common.{◌∙◌, length, eqb, get_or}
use Rattle.std.proofs.Common.{Bool, true, false}
use Rattle.std.specs.List.{slice_split, join_with_byte}
use Rattle.std.proofs.lemmas.List.Splits.{length-slice_split, join_with_byte-slice_split}
use Rattle.pim_fact_lines.specs.Texts.{NEWLINE, without_empty_last, lines_of}
use Rattle.memchr.specs.Find.{NoneBefore, Nowhere, Passes, is_byte}
use Rattle.pim_fact_lines.proofs.Cuts.{found_at, found_nowhere, split_at_place, split_nowhere}

abbrev parts : List ℕ → List (List ℕ)
parts bytes = slice_split (λ b. eqb b NEWLINE) bytes

-- the last line is the bytes
lines_of-last :
    (b : ℕ) (bytes line : List ℕ)
    → parts (b ∷ bytes) ≡ line ∷ []
    → lines_of (b ∷ bytes) ≡ line ∷ []
lines_of-last b bytes [] cut =
    absurd (empty
    (sym (join_with_byte-slice_split NEWLINE (b ∷ bytes)) ∙ ap (join_with_byte NEWLINE) cut))
  where
    empty : b ∷ bytes ≡ [] → ⊥
    empty e = cc
lines_of-last b bytes (x ∷ line) cut = ap without_empty_last cut

-- there are more parts behind this one
lines_of-more :
    (bytes line rest : List ℕ)
    → parts bytes ≡ line ∷ parts rest
    → lines_of bytes ≡ line ∷ lines_of rest
lines_of-more bytes line rest cut =
    ap without_empty_last cut
    ∙ go (parts rest) (omega (arith, length-slice_split (λ b. eqb b NEWLINE) rest)) line
  where
    go :
        (ps : List (List ℕ))
        → 0 < length ps
        → (line : List ℕ)
        → without_empty_last (line ∷ ps) ≡ line ∷ without_empty_last ps
    go [] some line = absurd (omega arith)
    go (p ∷ ps) some [] = refl
    go (p ∷ ps) some (x ∷ line) = refl

not_passing :
    (bytes : List ℕ) (k : ℕ)
    → (Passes (is_byte NEWLINE) bytes k → ⊥)
    → eqb (get_or bytes k 0) NEWLINE ≡ false
not_passing bytes k other = split (eqb (get_or bytes k 0) NEWLINE) refl
  where
    split : (b : Bool) → eqb (get_or bytes k 0) NEWLINE ≡ b → eqb (get_or bytes k 0) NEWLINE ≡ false
    split true e = absurd (other e)
    split false e = e

-- the line before the first newline
pub line_ended :
    (bytes : List ℕ) (i : ℕ)
    → NoneBefore (Passes (is_byte NEWLINE) bytes) 0 (length bytes) i
    → Passes (is_byte NEWLINE) bytes i
    → lines_of bytes ≡ take i bytes ∷ lines_of (drop (i + 1) bytes)
line_ended bytes i first here =
    let place = found_at (is_byte NEWLINE) bytes i first.high
    (λ k h. not_passing bytes k (first.before k (omega arith) h)) here in
    lines_of-more bytes
    (take i bytes) (drop (i + 1) bytes) (split_at_place (is_byte NEWLINE) bytes i (sym place))

-- no newline
pub last_line :
    (bytes : List ℕ)
    → 0 < length bytes
    → Nowhere (Passes (is_byte NEWLINE) bytes) 0 (length bytes)
    → lines_of bytes ≡ bytes ∷ []
last_line [] some none = absurd (omega arith)
last_line (b ∷ bytes) some none =
    let nowhere = found_nowhere
    (is_byte NEWLINE) (b ∷ bytes) (λ k h. not_passing (b ∷ bytes) k (none k (omega arith) h)) in
    lines_of-last b bytes (b ∷ bytes) (split_nowhere (is_byte NEWLINE) (b ∷ bytes) (sym nowhere))
