-- The number that the first word of bytes spells.
use Rattle.std.proofs.Common.{◌≡◌, ◌∙◌, ℕ, ◌+◌, ◌<◌, ◌≤◌, ◌^◌, List, [], ◌∷◌, Option, Some, None}
use Rattle.std.proofs.Common.{inl, inr}
use Rattle.std.proofs.Common.{length, take, drop, get_or, arith, sym, ap, subst, codes, Bool, false}
use Rattle.std.proofs.Common.{true, refl, eqb}
use Rattle.std.specs.List.{position}
use Rattle.std.specs.Option.{option_map}
use Rattle.std.specs.Int.{IsInRange}
use Rattle.std.specs.Str.{bytes_eq}
use Rattle.std.specs.Str.Parse.{digits_value}
use Rattle.std.proofs.lemmas.Bool.{eqb-true, ne_eqb, eq-eqb, cases_order}
use Rattle.std.proofs.lemmas.List.{take-take, take_all, get_or-take, length-take-le}
use Rattle.std.proofs.lemmas.List.Sums.{passes_at_first}
use Rattle.pim_fact_lines.specs.Words.{words, number_in, SPACE}
use Rattle.pim_fact_lines.specs.Lines.{number_first}
use Rattle.pim_fact_lines.proofs.Cuts.{NoneBelow, found_at, found_nowhere, split_at_place}
use Rattle.pim_fact_lines.proofs.Cuts.{split_nowhere}
use Rattle.pim_fact_lines.proofs.Numbers.{none_first, none_digit, none_high, some_digits}

abbrev is_space : ℕ → Bool
is_space b = eqb b SPACE

-- ---- what the first word spells is what the words begin with

pub first_some :
    (bytes w : List ℕ) (ws : List (List ℕ)) (n : ℕ)
    → words bytes ≡ w ∷ ws
    → Some n ≡ number_in w
    → Some (n, ws) ≡ number_first (words bytes)
first_some bytes w ws n cut e = rw cut (ap (option_map (λ n. (n, ws))) e)

first_none :
    (bytes w : List ℕ) (ws : List (List ℕ))
    → words bytes ≡ w ∷ ws
    → None ≡ number_in w
    → None ≡ number_first (words bytes)
first_none bytes w ws cut e = rw cut (ap (option_map (λ n. (n, ws))) e)

-- ---- bytes that begin with no space

-- no byte up to a place is a space
abbrev NoSpace : List ℕ → ℕ → Type 0
NoSpace bytes place = (k : ℕ) → k ≤ place → get_or bytes k 0 ≡ SPACE → ⊥

position_inside : (bytes : List ℕ) (i : ℕ) → position is_space bytes ≡ Some i → i < length bytes
position_inside bytes i e = grind arith

position_passes :
    (bytes : List ℕ) (i : ℕ)
    → position is_space bytes ≡ Some i
    → is_space (get_or bytes i 0) ≡ true
position_passes bytes i e = grind (arith, passes_at_first)

-- the first space is after this place
later_space :
    (bytes : List ℕ) (place i : ℕ)
    → NoSpace bytes place
    → position is_space bytes ≡ Some i
    → place < i
later_space bytes place i other e =
    let space : get_or bytes i 0 ≡ SPACE =
    eqb-true _ _ (position_passes bytes i e) in elim (cases_order place i) [
      | inl same ↦ absurd (other i (omega arith) space)
      | inr (inl before) ↦ before
      | inr (inr after) ↦ absurd (other i (omega arith) space)
    ]

-- so the first word has the bytes up to this place; it spells no number if no such word does
none_within :
    (bytes : List ℕ) (place : ℕ)
    → place < length bytes
    → NoSpace bytes place
    → ((w : List ℕ) (ws : List (List ℕ))
    → words bytes ≡ w ∷ ws
    → place < length w
    → get_or w place 0 ≡ get_or bytes place 0
    → take place w ≡ take place bytes
    → None ≡ number_in w)
    → None ≡ number_first (words bytes)
none_within bytes place inside other none = split (position is_space bytes) refl
  where
    split : (p : Option ℕ) → position is_space bytes ≡ p → None ≡ number_first (words bytes)
    split None e =
        let cut = split_nowhere is_space bytes e in
        first_none bytes bytes [] cut (none bytes [] cut inside refl refl)
    split (Some i) e =
        let cut = split_at_place is_space bytes i e in
        let later : place < i = later_space bytes place i other e in
        let size : length (take i bytes) ≡ i =
        length-take-le i bytes (omega (arith, position_inside bytes i e)) in
        first_none bytes (take i bytes) (words (drop (i + 1) bytes)) cut
        (none (take i bytes)
        (words (drop (i + 1) bytes)) cut (omega arith) (get_or-take i bytes place 0 later)
        (take-take place i bytes (omega arith)))

-- ---- a number that begins with 0, or with none of the digits

pub none_padded :
    (bytes w : List ℕ) (ws : List (List ℕ))
    → 0 < length bytes
    → get_or bytes 0 0 ≡ 48
    → words bytes ≡ w ∷ ws
    → bytes_eq w (codes "0") ≡ false
    → None ≡ number_first (words bytes)
none_padded bytes w ws some zero cut other =
    none_within bytes 0 some
    (λ k low space.
    let same : k ≡ 0 = omega arith in
    let bad : get_or bytes 0 0 ≡ SPACE = (rw same at space) in omega arith)
    (λ v vs is long first _.
    let same : v ≡ w = cc in
    none_first v (ap (λ u. bytes_eq u (codes "0")) same ∙ other)
    (λ more. omega (arith, more.1, first, zero)))

no_digits : None ≡ number_in []
no_digits = none_first [] refl (λ more. omega (arith, more.0))

pub none_low : (bytes : List ℕ) → get_or bytes 0 0 < 48 → None ≡ number_first (words bytes)
none_low [] low = first_none [] [] [] refl no_digits
none_low (b ∷ bytes) low = split (eqb b SPACE) refl
  where
    split : (space : Bool) → eqb b SPACE ≡ space → None ≡ number_first (words (b ∷ bytes))
    split true e = first_none (b ∷ bytes) [] (words bytes) (rw e refl) no_digits
    split false e =
        let other : b ≡ SPACE → ⊥ =
        λ space. let bad : true ≡ false = sym (eq-eqb _ _ space) ∙ e in cc in
        none_within (b ∷ bytes) 0 (omega arith)
        (λ k first space. let zero : k ≡ 0 = omega arith in other (rw zero at space))
        (λ v vs is long first _. none_digit v 0 long (λ digit. omega (arith, digit, first, low)))

pub none_empty : (bytes : List ℕ) → length bytes ≡ 0 → None ≡ number_first (words bytes)
none_empty [] e = none_low [] (omega arith)
none_empty (b ∷ bytes) e = absurd (omega arith)

-- ---- a number that begins with another digit

-- there are digits before a place
abbrev Digits : List ℕ → ℕ → Type 0
Digits bytes place = (k : ℕ) → k < place → IsInRange 48 57 (get_or bytes k 0)

module _ (bytes : List ℕ) (place : ℕ) (digits : Digits bytes place) where
  no_space_before : NoneBelow is_space bytes place
  no_space_before k h = ne_eqb (get_or bytes k 0) SPACE (λ space. omega (arith, digits k h, space))

  no_space : (get_or bytes place 0 ≡ SPACE → ⊥) → NoSpace bytes place
  no_space other k low space = elim (cases_order k place) [
    | inl same ↦ other (ap (λ n. get_or bytes n 0) (sym same) ∙ space)
    | inr (inl before) ↦ omega (arith, digits k before, space)
    | inr (inr after) ↦ omega arith
  ]

  -- then a byte that is none
  pub none_other :
      place < length bytes
      → (get_or bytes place 0 ≡ SPACE → ⊥)
      → (IsInRange 48 57 (get_or bytes place 0) → ⊥)
      → None ≡ number_first (words bytes)
  none_other inside other bad =
      none_within bytes place inside (no_space other)
      (λ w ws cut long same _.
      none_digit w place long (λ digit. bad (subst (λ b. IsInRange 48 57 b) same digit)))

  -- one more after too many
  pub none_long :
      (value : ℕ)
      → place < length bytes
      → (get_or bytes place 0 ≡ SPACE → ⊥)
      → value ≡ digits_value 10 (take place bytes)
      → 10 ^ 18 ≤ value
      → None ≡ number_first (words bytes)
  none_long value inside other is high =
      none_within bytes place inside (no_space other)
      (λ w ws cut long same front.
      none_high w place value long (is ∙ ap (digits_value 10) (sym front)) high)

  not_first : 49 ≤ get_or bytes 0 0 → get_or bytes place 0 ≡ SPACE → 0 < place
  not_first first space = elim (cases_order 0 place) [
    | inl same ↦ let bad : get_or bytes 0 0 ≡ SPACE =
        ap (λ n. get_or bytes n 0) same ∙ space in absurd (omega arith)
    | inr (inl before) ↦ before
    | inr (inr after) ↦ absurd (omega arith)
  ]

  -- then a space
  pub some_before :
      (value : ℕ)
      → place < length bytes
      → 49 ≤ get_or bytes 0 0
      → get_or bytes place 0 ≡ SPACE
      → value < 10 ^ 19
      → value ≡ digits_value 10 (take place bytes)
      → Some (value, words (drop (place + 1) bytes)) ≡ number_first (words bytes)
  some_before value inside first space small is =
      let w = take place bytes in
      let size : length w ≡ place = length-take-le place bytes (omega arith) in
      let some : 0 < place = not_first first space in
      let same : get_or w 0 0 ≡ get_or bytes 0 0 = get_or-take place bytes 0 0 some in
      let at = found_at is_space bytes place inside no_space_before (eq-eqb _ _ space) in
      first_some bytes w
      (words (drop (place + 1) bytes)) value (split_at_place is_space bytes place (sym at))
      (some_digits w value (omega arith) (omega arith) small
      (λ k h.
      let below : k < place = omega arith in
      subst (λ b. IsInRange 48 57 b) (sym (get_or-take place bytes k 0 below)) (digits k below))
      is)

  -- then the end
  pub some_all :
      (value : ℕ)
      → length bytes ≡ place
      → 0 < length bytes
      → 49 ≤ get_or bytes 0 0
      → value < 10 ^ 19
      → value ≡ digits_value 10 (take place bytes)
      → Some (value, []) ≡ number_first (words bytes)
  some_all value end some first small is =
      let nowhere =
      found_nowhere is_space bytes (λ k h. no_space_before k (omega (arith, h, end))) in
      first_some bytes bytes [] value (split_nowhere is_space bytes (sym nowhere))
      (some_digits bytes value some first small (λ k h. digits k (omega (arith, h, end)))
      (is ∙ ap (digits_value 10) (take_all place bytes (omega arith))))
