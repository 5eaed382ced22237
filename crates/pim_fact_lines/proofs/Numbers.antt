-- Words that spell numbers.
use Rattle.std.proofs.Common.{◌≡◌, ◌∙◌, ℕ, ◌+◌, ◌*◌, ◌<◌, ◌≤◌, ◌^◌, List, Some, None}
use Rattle.std.proofs.Common.{length, take, get_or, arith, sym, ap, codes, Bool, false, true, refl}
use Rattle.std.proofs.Common.{zero, suc, ltb}
use Rattle.std.proofs.lemmas.Bool.{lt-ltb, ltb-true}
use Rattle.std.specs.Char.{digit_value}
use Rattle.std.specs.Fmt.{decimal}
use Rattle.std.specs.Int.{IsInRange}
use Rattle.std.specs.Str.{bytes_eq}
use Rattle.std.specs.Str.Parse.{digits_value, AllDigits}
use Rattle.std.proofs.lemmas.Int.Digits.{digits_value_more}
use Rattle.std.proofs.lemmas.Str.Parse.{IsNumeralModel, numerals_by_value, tells_digits}
use Rattle.std.proofs.lemmas.Str.Parse.{tells_by_index, digit_at, digits_value-take-le}
use Rattle.std.proofs.lemmas.Fmt.{digits_decimal, digits_value-decimal, decimal_nonempty}
use Rattle.std.proofs.lemmas.Fmt.{first_decimal, decimal-digits_value, decimal_digit}
use Rattle.pim_fact_lines.specs.Words.{number_in}
use Rattle.pim_fact_lines.proofs.Comparing.{eq_same, same_eq, other_ne}

numerals : IsNumeralModel (AllDigits 10) (digits_value 10)
numerals = numerals_by_value _ tells_digits

-- ---- what spells a number, and what spells none

-- a word spells this number
abbrev Spells : List ℕ → ℕ → Type 0
Spells word n = (n < 10 ^ 19) × (word ≡ decimal n)

number_in-some : (word : List ℕ) (n : ℕ) → Spells word n → Some n ≡ number_in word
number_in-some word n is =
    let value : digits_value 10 word ≡ n =
    ap (digits_value 10) is.1 ∙ digits_value-decimal numerals n (omega (arith, is.0)) in
    rw value (let small : ltb n (10 ^ 19) ≡ true = lt-ltb _ _ is.0 in
    let same : bytes_eq word (decimal n) ≡ true = eq_same word (decimal n) is.1 in
    rw small (rw same refl))

number_in-none : (word : List ℕ) → ((n : ℕ) → Spells word n → ⊥) → None ≡ number_in word
number_in-none word none =
    sym (spelled (ltb (digits_value 10 word) (10 ^ 19))
    (bytes_eq word (decimal (digits_value 10 word))) refl refl)
  where
    spelled :
        (small same : Bool)
        → ltb (digits_value 10 word) (10 ^ 19) ≡ small
        → bytes_eq word (decimal (digits_value 10 word)) ≡ same
        → number_in word ≡ None
    spelled false same e f = rw e refl
    spelled true false e f = rw e (rw f refl)
    spelled true true e f = absurd (none (digits_value 10 word) (ltb-true _ _ e, same_eq _ _ f))

-- ---- the digits of a number

-- the first byte of a positive number is a digit, and not 0
first_of_number :
    (n : ℕ) (word : List ℕ)
    → Spells word n
    → 0 < n
    → (0 < length word) × (48 < get_or word 0 0) × (get_or word 0 0 ≤ 57)
first_of_number n word is positive =
    let small : n < 2 ^ 64 = omega (arith, is.0) in
    let long : 0 < length (decimal n) = decimal_nonempty n small in
    let digit = digit_at (decimal n) 0 (digits_decimal numerals n small) long in
    rw is.1 (long, first_decimal n positive small, digit.1)

-- each byte of a number is a digit
digit_of_number :
    (n : ℕ) (word : List ℕ) (i : ℕ)
    → Spells word n
    → i < length word
    → IsInRange 48 57 (get_or word i 0)
digit_of_number n word i is inside =
    let long : i < length (decimal n) = omega (arith, inside, ap length is.1) in
    let digit = digit_at (decimal n) i (digits_decimal numerals n (omega (arith, is.0))) long in
    rw is.1 digit

-- the digits of a number that come first are no larger number
front_of_number :
    (n : ℕ) (word : List ℕ) (i : ℕ)
    → Spells word n
    → digits_value 10 (take i word) ≤ n
front_of_number n word i is =
    let front = digits_value-take-le 10 word i (omega arith) in
    let whole : digits_value 10 word ≡ n =
    ap (digits_value 10) is.1 ∙ digits_value-decimal numerals n (omega (arith, is.0)) in
    omega (arith, front, whole)

-- one digit more
pub value_more :
    (word : List ℕ) (i value digit : ℕ)
    → i < length word
    → value ≡ digits_value 10 (take i word)
    → digit ≡ digit_value (get_or word i 0)
    → value * 10 + digit ≡ digits_value 10 (take (i + 1) word)
value_more word i value digit inside before more =
    ap (λ v. v * 10 + digit) before
    ∙ ap (λ d. digits_value 10 (take i word) * 10 + d) more
    ∙ sym (digits_value_more 10 word i inside)

-- ---- words other than 0 that spell none

-- 0 has one spelling
not_zero : (word : List ℕ) → bytes_eq word (codes "0") ≡ false → (n : ℕ) → Spells word n → 0 < n
not_zero word other zero is =
    absurd (other_ne word (codes "0") other (is.1 ∙ decimal_digit 0 (omega arith)))
not_zero word other (suc n) is = omega arith

pub none_first :
    (word : List ℕ)
    → bytes_eq word (codes "0") ≡ false
    → ((0 < length word) × (48 < get_or word 0 0) → ⊥)
    → None ≡ number_in word
none_first word other bad = number_in-none word (λ n is.
    let first = first_of_number n word is (not_zero word other n is) in bad (first.0, first.1))

pub none_digit :
    (word : List ℕ) (i : ℕ)
    → i < length word
    → (IsInRange 48 57 (get_or word i 0) → ⊥)
    → None ≡ number_in word
none_digit word i inside bad =
    number_in-none word (λ n is. bad (digit_of_number n word i is inside))

pub none_high :
    (word : List ℕ) (i value : ℕ)
    → i < length word
    → value ≡ digits_value 10 (take i word)
    → 10 ^ 18 ≤ value
    → None ≡ number_in word
none_high word i value inside before high = number_in-none word (λ n is.
    let front = front_of_number n word (i + 1) is in
    let more = digits_value_more 10 word i inside in
    omega (arith, front, more, is.0))

-- ---- digits that spell one

pub some_digits :
    (word : List ℕ) (n : ℕ)
    → 0 < length word
    → 49 ≤ get_or word 0 0
    → n < 10 ^ 19
    → ((k : ℕ) → k < length word → IsInRange 48 57 (get_or word k 0))
    → n ≡ digits_value 10 word
    → Some n ≡ number_in word
some_digits word n long first small each value =
    let digits : AllDigits 10 word = (numerals_by_value _ tells_by_index).to word each in
    let spells : decimal (digits_value 10 word) ≡ word =
    decimal-digits_value numerals word digits long
    (λ zero. absurd (omega arith)) (omega (arith, small, value)) in
    number_in-some word n (small, sym spells ∙ ap decimal (sym value))

pub some_zero : (word : List ℕ) → bytes_eq word (codes "0") ≡ true → Some 0 ≡ number_in word
some_zero word e =
    number_in-some word 0
    (omega arith, same_eq word (codes "0") e ∙ sym (decimal_digit 0 (omega arith)))
