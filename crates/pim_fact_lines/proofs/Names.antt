-- Names and places: words at the end of a line.
use Rattle.std.proofs.Common.{◌≡◌, ℕ, suc, ◌<◌, ◌≤◌, List, [], ◌∷◌, Bool, true, false, length}
use Rattle.std.proofs.Common.{get_or}
use Rattle.std.proofs.Common.{leb}
use Rattle.std.proofs.Common.{arith, refl, sym, ap, ◌∙◌, eqb}
use Rattle.std.specs.List.{list_all, join_with_byte}
use Rattle.std.proofs.lemmas.Bool.{le-leb, leb-true, ne_eqb}
use Rattle.std.proofs.lemmas.List.Splits.{join_with_byte-slice_split, length-slice_split}
use Rattle.pim_fact_lines.specs.Words.{SPACE, words, is_sign, is_name}
use Rattle.pim_fact_lines.specs.Lines.{is_one_name}

-- each byte is a sign
all_signs :
    (w : List ℕ)
    → ((k : ℕ) → k < length w → (33 ≤ get_or w k 0) × (get_or w k 0 ≤ 126))
    → list_all is_sign w ≡ true
all_signs [] each = refl
all_signs (b ∷ w) each =
    let first : (33 ≤ b) × (b ≤ 126) = each 0 (omega arith) in
    let low : leb 33 b ≡ true = le-leb _ _ first.0 in
    let high : leb b 126 ≡ true = le-leb _ _ first.1 in
    rw low (rw high (all_signs w (λ k h. each (suc k) (omega arith))))

pub name_yes :
    (w : List ℕ)
    → 0 < length w
    → length w ≤ 64
    → ((k : ℕ) → k < length w → (33 ≤ get_or w k 0) × (get_or w k 0 ≤ 126))
    → true ≡ is_name w
name_yes w some short each =
    let least : leb 1 (length w) ≡ true = le-leb _ _ (omega arith) in
    let most : leb (length w) 64 ≡ true = le-leb _ _ short in
    rw least (rw most (sym (all_signs w each)))

pub some_bytes : (bytes : List ℕ) → false ≡ eqb (length bytes) 0 → 0 < length bytes
some_bytes [] e = cc
some_bytes (b ∷ bytes) e = omega arith

-- ---- one name

-- bytes without a space are one word
one_word : (w : List ℕ) → list_all is_sign w ≡ true → words w ≡ w ∷ []
one_word [] e = refl
one_word (b ∷ w) e = split (leb 33 b) (leb b 126) refl refl (one_word w)
  where
    split :
        (low high : Bool)
        → leb 33 b ≡ low
        → leb b 126 ≡ high
        → (list_all is_sign w ≡ true → words w ≡ w ∷ [])
        → words (b ∷ w) ≡ (b ∷ w) ∷ []
    split false high l h go = let bad : false ≡ true = sym (rw l refl) ∙ e in cc
    split true false l h go = let bad : false ≡ true = sym (rw l (rw h refl)) ∙ e in cc
    split true true l h go =
        let rest : list_all is_sign w ≡ true = sym (rw l (rw h refl)) ∙ e in
        let low = leb-true _ _ l in
        let other : eqb b 32 ≡ false = ne_eqb b 32 (λ space. omega (arith, low, space)) in
        rw other (rw (go rest) refl)

name_signs : (w : List ℕ) → is_name w ≡ true → list_all is_sign w ≡ true
name_signs w e = grind arith

-- bytes have a word
pub some_word : (bytes : List ℕ) → words bytes ≡ [] → ⊥
some_word bytes e =
    let size = length-slice_split (λ b. eqb b SPACE) bytes in
    let none : length (words bytes) ≡ 0 = ap length e in
    omega (arith, size, none)

-- bytes are one name if they are a name: a space is none of its signs
pub one_name : (bytes : List ℕ) → is_name bytes ≡ is_one_name (words bytes)
one_name bytes = split (is_name bytes) refl (words bytes) refl
  where
    split :
        (b : Bool)
        → is_name bytes ≡ b
        → (ws : List (List ℕ))
        → words bytes ≡ ws
        → is_name bytes ≡ is_one_name (words bytes)
    split true is ws e = rw (one_word bytes (name_signs bytes is)) refl
    split false is [] e = absurd (some_word bytes e)
    split false is (w ∷ []) e =
        let alone : bytes ≡ w =
        sym (join_with_byte-slice_split SPACE bytes) ∙ ap (join_with_byte SPACE) e in
        rw e (ap is_name alone)
    split false is (w ∷ v ∷ ws) e = rw e is
