-- Words that spell numbers.
use Rattle.std.proofs.Common.{◌≡◌, ◌≢◌, ◌∙◌, ℕ, ◌+◌, ◌*◌, ◌<◌, ◌≤◌, ◌^◌, List}
use Rattle.std.proofs.Common.{[], ◌∷◌, length, take, get_or, arith, sym, ap}
use Rattle.std.specs.Char.{digit_value}
use Rattle.std.specs.Fmt.{decimal}
use Rattle.std.specs.Int.{IsInRange}
use Rattle.std.specs.Str.Parse.{digits_value, AllDigits}
use Rattle.std.proofs.lemmas.Int.Digits.{digits_value_more}
use Rattle.std.proofs.lemmas.Str.Parse.{IsNumeralModel, numerals_by_value, tells_digits}
use Rattle.std.proofs.lemmas.Str.Parse.{tells_by_index, digit_at, digits_value-take-le}
use Rattle.std.proofs.lemmas.Fmt.{digits_decimal, digits_value-decimal, decimal_nonempty}
use Rattle.std.proofs.lemmas.Fmt.{first_decimal, decimal-digits_value, decimal_digit}
use Rattle.pim_base.specs.Spelling.{IsNumber}

pub numerals : IsNumeralModel (AllDigits 10) (digits_value 10)
numerals = numerals_by_value _ tells_digits

-- the first byte is a digit, and not 0
pub first_of_number :
    (n : ℕ) (word : List ℕ)
    → IsNumber n
    → word ≡ decimal n
    → (0 < length word) × (48 < get_or word 0 0) × (get_or word 0 0 ≤ 57)
first_of_number n word is e =
    let small : n < 2 ^ 64 = omega arith in
    let long : 0 < length (decimal n) = decimal_nonempty n small in
    let digit = digit_at (decimal n) 0 (digits_decimal numerals n small) long in
    rw e (long, first_decimal n is.0 small, digit.1)

-- each byte of a number is a digit
pub digit_of_number :
    (n : ℕ) (word : List ℕ) (i : ℕ)
    → n < 2 ^ 16
    → word ≡ decimal n
    → i < length word
    → IsInRange 48 57 (get_or word i 0)
digit_of_number n word i small e inside =
    let long : i < length (decimal n) = omega (arith, inside, ap length e) in
    let digit = digit_at (decimal n) i (digits_decimal numerals n (omega arith)) long in
    rw e digit

-- the digits of a number that come first are no larger number
pub front_of_number :
    (n : ℕ) (word : List ℕ) (i : ℕ)
    → n < 2 ^ 16
    → word ≡ decimal n
    → digits_value 10 (take i word) ≤ n
front_of_number n word i small e =
    let front = digits_value-take-le 10 word i (omega arith) in
    let whole : digits_value 10 word ≡ n = ap (digits_value 10) e ∙ digits_value-decimal numerals n (omega arith) in
    omega (arith, front, whole)

-- one digit more
pub value_more :
    (word : List ℕ) (i value digit : ℕ)
    → i < length word
    → value ≡ digits_value 10 (take i word)
    → digit ≡ digit_value (get_or word i 0)
    → value * 10 + digit ≡ digits_value 10 (take (i + 1) word)
value_more word i value digit inside before more =
    ap (λ v. v * 10 + digit) before
    ∙ ap (λ d. digits_value 10 (take i word) * 10 + d) more
    ∙ sym (digits_value_more 10 word i inside)

-- the bytes are digits, one by one
pub all_digits : (word : List ℕ) → ((k : ℕ) → k < length word → IsInRange 48 57 (get_or word k 0)) → AllDigits 10 word
all_digits word each = (numerals_by_value _ tells_by_index).to word each

not_zero : (word : List ℕ) → 49 ≤ get_or word 0 0 → word ≡ 48 ∷ [] → ⊥
not_zero word first e = let zero : get_or word 0 0 ≡ 48 = ap (λ w. get_or w 0 0) e in omega (arith, first, zero)

-- a word of digits spells its value
pub number_valued :
    (word : List ℕ) (n : ℕ)
    → 0 < length word
    → 49 ≤ get_or word 0 0
    → n < 2 ^ 16
    → AllDigits 10 word
    → n ≡ digits_value 10 word
    → IsNumber n × (word ≡ decimal n)
number_valued word n long first small digits value =
    let spells : decimal (digits_value 10 word) ≡ word =
    decimal-digits_value numerals word digits long (λ zero. absurd (omega arith)) (omega (arith, small, value)) in
    let spelled : word ≡ decimal n = sym spells ∙ ap decimal (sym value) in
    let positive : n ≢ 0 = λ zero. not_zero word first (spelled ∙ ap decimal zero ∙ decimal_digit 0 (omega arith)) in
    ((omega arith, small), spelled)

pub no_number : (n : ℕ) (word : List ℕ) → IsNumber n → word ≡ decimal n → 57 < get_or word 0 0 → ⊥
no_number n word is e high = let first = first_of_number n word is e in omega arith
