-- The number that bytes begin with.
use Rattle.std.proofs.Common.{◌≡◌, ℕ, zero, suc, ◌+◌, ◌<◌, ◌≤◌, ◌^◌, List, [], ◌∷◌, ◌++◌}
use Rattle.std.proofs.Common.{◌-◌, Bool, length, length-append, take, drop, get_or, arith}
use Rattle.std.proofs.Common.{refl, sym, ap, ◌∙◌, below_more, eqb, leb, false, true}
use Rattle.std.specs.Fmt.{decimal}
use Rattle.std.specs.Int.{IsInRange}
use Rattle.std.specs.List.{join_with_byte}
use Rattle.std.specs.Str.Parse.{digits_value}
use Rattle.std.proofs.lemmas.Bool.{ne_eqb, leb-true, leb-false}
use Rattle.std.proofs.lemmas.List.{append-nil, get_or-take, get_or_append_left, get_or-append_right}
use Rattle.std.proofs.lemmas.List.{take-append-le, take_all, length-take-le}
use Rattle.std.proofs.lemmas.List.Splits.{join_with_byte-slice_split}
use Rattle.pim_base.specs.Spelling.{SPACE, IsNumber}
use Rattle.pim_text.specs.Reading.{words}
use Rattle.pim_text.proofs.NumberLemmas.{first_of_number, digit_of_number, front_of_number, number_valued, all_digits}
use Rattle.pim_text.proofs.SeparatorLemmas.{NoneBelow, found_at, found_nowhere}
use Rattle.pim_text.proofs.CutLemmas.{split_at_place, split_nowhere}

-- none of the first i bytes is a space
abbrev pub NoSpace : List ℕ → ℕ → Type 0
NoSpace bytes i = NoneBelow (λ b. eqb b SPACE) bytes i

-- a digit is no space
pub digit_no_space : (b : ℕ) → IsInRange 48 57 b → eqb b SPACE ≡ false
digit_no_space b is = ne_eqb b SPACE (λ e. omega (arith, is, e))

-- bytes begin with their first word, behind which there is a space or nothing
begins_word :
    (bytes w : List ℕ) (ws : List (List ℕ))
    → words bytes ≡ w ∷ ws
    → (t : List ℕ) × (bytes ≡ w ++ t) × (0 < length t → get_or t 0 0 ≡ SPACE)
begins_word bytes w [] e =
    let joined = sym (join_with_byte-slice_split SPACE bytes) ∙ ap (join_with_byte SPACE) e in
    ([], joined ∙ sym (append-nil w), λ some. absurd (omega arith))
begins_word bytes w (x ∷ ws) e =
    let joined = sym (join_with_byte-slice_split SPACE bytes) ∙ ap (join_with_byte SPACE) e in
    (SPACE ∷ join_with_byte SPACE (x ∷ ws), joined, λ some. refl)

-- if no space came, the bytes that came are the first word's
pub in_first_word :
    (bytes w : List ℕ) (ws : List (List ℕ)) (i : ℕ)
    → words bytes ≡ w ∷ ws
    → NoSpace bytes i
    → i ≤ length bytes
    → (i ≤ length w) × (take i bytes ≡ take i w)
in_first_word bytes w ws i e none inside =
    let (t, is, space) = begins_word bytes w ws e in
    let size : length bytes ≡ length w + length t = ap length is ∙ length-append w t in
    let short : i ≤ length w = no_longer t is space size in
    (short, ap (take i) is ∙ take-append-le i w t short)
  where
    no_longer :
        (t : List ℕ)
        → bytes ≡ w ++ t
        → (0 < length t → get_or t 0 0 ≡ SPACE)
        → length bytes ≡ length w + length t
        → i ≤ length w
    no_longer t is space size = split (leb i (length w)) refl
      where
        split : (b : Bool) → leb i (length w) ≡ b → i ≤ length w
        split true e = leb-true i (length w) e
        split false e =
            let after : length w < i = leb-false i (length w) e in
            let begins : length w - length w ≡ 0 = omega arith in
            let at : get_or bytes (length w) 0 ≡ SPACE =
            ap (λ (b : List ℕ). get_or b (length w) 0) is
            ∙ get_or-append_right w t (length w) (length w) 0 refl (omega arith)
            ∙ ap (λ k. get_or t k 0) begins ∙ space (omega arith) in
            let bad : false ≡ true = sym (none (length w) after) ∙ ap (λ b. eqb b SPACE) at in
            cc

-- digits are no spaces
pub no_space_in_digits :
    (bytes : List ℕ) (i : ℕ)
    → ((k : ℕ) → k < i → IsInRange 48 57 (get_or bytes k 0))
    → NoSpace bytes i
no_space_in_digits bytes i digits k h = digit_no_space (get_or bytes k 0) (digits k h)

-- if the first byte is a digit, there are bytes
pub not_empty : (bytes : List ℕ) → 49 ≤ get_or bytes 0 0 → 0 < length bytes
not_empty [] first = absurd (omega arith)
not_empty (b ∷ bytes) first = omega arith

-- if the first byte is a digit, it isn't a space
pub not_first : (bytes : List ℕ) (i : ℕ) → 49 ≤ get_or bytes 0 0 → get_or bytes i 0 ≡ SPACE → 0 < i
not_first bytes zero first e = let same : get_or bytes 0 0 ≡ 32 = e in absurd (omega arith)
not_first bytes (suc i) first e = omega arith

-- ---- when the first word is a number

module _ (bytes : List ℕ) (n : ℕ) (ws : List (List ℕ)) (is : IsNumber n) (e : words bytes ≡ decimal n ∷ ws) where
  -- it begins with a digit, and not with 0
  pub first_of_word : (0 < length bytes) × (48 < get_or bytes 0 0) × (get_or bytes 0 0 ≤ 57)
  first_of_word =
      let (t, both, space) = begins_word bytes (decimal n) ws e in
      let first = first_of_number n (decimal n) is refl in
      let size : length bytes ≡ length (decimal n) + length t = ap length both ∙ length-append (decimal n) t in
      let same : get_or bytes 0 0 ≡ get_or (decimal n) 0 0 =
      ap (λ (b : List ℕ). get_or b 0 0) both ∙ get_or_append_left (decimal n) t 0 0 first.0 in
      (omega (arith, size, first.0), omega (arith, same, first.1), omega (arith, same, first.2))

  -- what comes before the first space is a digit
  pub digit_of_word :
      (i : ℕ)
      → NoSpace bytes i
      → eqb (get_or bytes i 0) SPACE ≡ false
      → i < length bytes
      → IsInRange 48 57 (get_or bytes i 0)
  digit_of_word i none here inside =
      let front = in_first_word bytes (decimal n) ws (i + 1) e (below_more _ _ none here) (omega arith) in
      let digit = digit_of_number n (decimal n) i is.1 refl (omega (arith, front.0)) in
      let same : get_or bytes i 0 ≡ get_or (decimal n) i 0 =
      sym (get_or-take (i + 1) bytes i 0 (omega arith))
      ∙ ap (λ (b : List ℕ). get_or b i 0) front.1
      ∙ get_or-take (i + 1) (decimal n) i 0 (omega arith) in
      rw same digit

  -- and no larger number
  pub front_of_word : (i : ℕ) → NoSpace bytes i → i ≤ length bytes → digits_value 10 (take i bytes) ≤ n
  front_of_word i none inside =
      let front = in_first_word bytes (decimal n) ws i e none inside in
      omega (arith, ap (digits_value 10) front.1, front_of_number n (decimal n) i is.1 refl)

-- ---- digits that are the first word

-- they spell their value
pub number_cut :
    (bytes : List ℕ) (i value : ℕ)
    → 0 < i
    → i ≤ length bytes
    → 49 ≤ get_or bytes 0 0
    → value < 2 ^ 16
    → ((k : ℕ) → k < i → IsInRange 48 57 (get_or bytes k 0))
    → value ≡ digits_value 10 (take i bytes)
    → IsNumber value × (take i bytes ≡ decimal value)
number_cut bytes i value some inside first small digits is =
    let size : length (take i bytes) ≡ i = length-take-le i bytes inside in
    let same = λ (k : ℕ) (less : k < i). get_or-take i bytes k 0 less in
    number_valued (take i bytes) value (omega arith) (omega (arith, same 0 some)) small
    (all_digits (take i bytes) (λ k h. let less : k < i = omega arith in rw (same k less) (digits k less)))
    is

pub cut_at_space :
    (bytes : List ℕ) (i value : ℕ)
    → i < length bytes
    → NoSpace bytes i
    → eqb (get_or bytes i 0) SPACE ≡ true
    → take i bytes ≡ decimal value
    → words bytes ≡ decimal value ∷ words (drop (i + 1) bytes)
cut_at_space bytes i value inside none here is =
    split_at_place (λ b. eqb b SPACE) bytes i (sym (found_at (λ b. eqb b SPACE) bytes i inside none here))
    ∙ ap (λ (w : List ℕ). w ∷ words (drop (i + 1) bytes)) is

pub cut_nowhere :
    (bytes : List ℕ) (i value : ℕ)
    → i ≡ length bytes
    → NoSpace bytes i
    → take i bytes ≡ decimal value
    → words bytes ≡ decimal value ∷ []
cut_nowhere bytes i value all none is =
    split_nowhere (λ b. eqb b SPACE) bytes (sym (found_nowhere (λ b. eqb b SPACE) bytes i all none))
    ∙ ap (λ (w : List ℕ). w ∷ []) (sym (take_all i bytes (omega arith)) ∙ is)
