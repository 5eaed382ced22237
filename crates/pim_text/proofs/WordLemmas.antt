-- Words cut off the front of a line, and what single words spell.
use Rattle.std.proofs.Common.{◌≡◌, ◌<◌, ◌≤◌, ◌^◌, ℕ, List, [], ◌∷◌, codes, arith, sym, ◌∙◌, ap, Option}
use Rattle.std.proofs.Common.{Some, None, Bor, Bool, true, false, eqb, length, ◌++◌, ◌≢◌, refl}
use Rattle.std.specs.Fmt.{decimal}
use Rattle.std.specs.Bool.{MatchBool}
use Rattle.std.specs.List.{join_with_byte, starts_with}
use Rattle.std.specs.Option.{SomeIff}
use Rattle.std.specs.Str.Parse.{digits_value}
use Rattle.std.proofs.lemmas.Fmt.{decimal_digit}
use Rattle.std.proofs.lemmas.Bool.Decides.{Decides-eqb}
use Rattle.std.proofs.lemmas.Slice.Eq.{starts_is}
use Rattle.std.proofs.lemmas.List.{append-nil, drop_all}
use Rattle.std.proofs.lemmas.List.Splits.{join_with_byte-slice_split, slice_split_none, length-slice_split}
use Rattle.std.proofs.lemmas.List.Elements.{All-from_recursion}
use Rattle.pim_base.specs.Spelling.{SPACE, IsNumber, IsPrio}
use Rattle.pim_text.specs.Reading.{words, pieces, ReadsAs}
use Rattle.pim_text.proofs.SpellingLemmas.{IsWord, word_decimal, value-decimal}

-- ---- the first word, and the others

-- bytes have a word
pub some_word : (bytes : List ℕ) → words bytes ≡ [] → ⊥
some_word bytes e =
    let size = length-slice_split (λ b. eqb b SPACE) bytes in
    let none : length (words bytes) ≡ 0 = ap length e in
    omega (arith, size, none)

-- what comes after the first word
pub cut_some :
    (ws : List (List ℕ)) (first : List ℕ) (o : Option (Bor (List ℕ))) (rest : Bor (List ℕ))
    → ws ≡ first ∷ pieces SPACE o
    → o ≡ Some rest
    → ws ≡ first ∷ words rest.now
cut_some ws first o rest cut some = cut ∙ ap (λ o. first ∷ pieces SPACE o) some

-- nothing comes after it
pub cut_none :
    (ws : List (List ℕ)) (first : List ℕ) (o : Option (Bor (List ℕ)))
    → ws ≡ first ∷ pieces SPACE o
    → o ≡ None
    → ws ≡ first ∷ []
cut_none ws first o cut none = cut ∙ ap (λ o. first ∷ pieces SPACE o) none

-- ---- a single word

pub one_word : (w : List ℕ) → IsWord w → words w ≡ w ∷ []
one_word w is = slice_split_none _ w (All-from_recursion _ w is)

-- bytes that are such a word
pub word_alone : (bytes w : List ℕ) → IsWord w → bytes ≡ w → words bytes ≡ w ∷ []
word_alone bytes w is e = ap words e ∙ one_word w is

pub one_number : (w : List ℕ) (n : ℕ) → n < 2 ^ 16 → w ≡ decimal n → words w ≡ decimal n ∷ []
one_number w n small e = word_alone w (decimal n) (word_decimal n small) e

pub one_prio : (w : List ℕ) (p : ℕ) → IsPrio p → w ≡ decimal p → words w ≡ decimal p ∷ []
one_prio w p is e = one_number w p (omega (arith, is.1)) e

-- bytes of one word are that word
pub only_word : (bytes w : List ℕ) → words bytes ≡ w ∷ [] → bytes ≡ w
only_word bytes w e = sym (join_with_byte-slice_split SPACE bytes) ∙ ap (join_with_byte SPACE) e

-- bytes that go on behind their first number are no number
pub number_goes_on :
    (word : List ℕ) (n : ℕ) (o : Option (Bor (List ℕ))) (rest : Bor (List ℕ))
    → words word ≡ decimal n ∷ pieces SPACE o
    → o ≡ Some rest
    → (m : ℕ)
    → IsNumber m
    → word ≡ decimal m
    → ⊥
number_goes_on word n o rest cut some m is e =
    let alone = one_number word m is.1 e in
    some_word rest.now (cc)

-- the priority that a number is, if it is one
pub prio_read :
    (word : List ℕ) (n : ℕ) (r : Option ℕ)
    → IsNumber n × (word ≡ decimal n)
    → SomeIff r ((1 ≤ n) × (n ≤ 99)) n
    → ReadsAs IsPrio decimal word r
prio_read word n (Some p) read h =
    ((omega (arith, h.1, read.0.0), omega (arith, h.0.1, h.1)), read.1 ∙ ap decimal (sym h.1))
prio_read word n None read h =
    λ p is e.
    let same : p ≡ n =
    sym (value-decimal p (omega (arith, is.1))) ∙ ap (digits_value 10) (sym e ∙ read.1) ∙ value-decimal n read.0.1 in
    h (omega (arith, same, read.0.0), omega (arith, same, is.1))

-- the count that is no 0, if it is a number
pub zero_read : (word : List ℕ) → word ≡ codes "0" → (0 < 2 ^ 16) × (word ≡ decimal 0)
zero_read word e = (omega arith, e ∙ sym (decimal_digit 0 (omega arith)))

pub count_read :
    (word : List ℕ) (r : Option ℕ)
    → (word ≡ codes "0" → ⊥)
    → ReadsAs IsNumber decimal word r
    → ReadsAs (λ n. n < 2 ^ 16) decimal word r
count_read word r other h = grind (arith, decimal_digit)

-- ---- comparing

-- a word that begins with one as long is that one
pub same_word :
    (word name : List ℕ) (r : Bool)
    → length word ≡ length name
    → r ≡ starts_with eqb word name
    → MatchBool r (word ≡ name) (word ≢ name)
same_word word name true long e =
    (starts_is Decides-eqb word name true e).0 refl
    ∙ ap (λ t. name ++ t) (drop_all (length name) word (omega arith))
    ∙ append-nil name
same_word word name false long e = λ same.
    let bad : false ≡ true = (starts_is Decides-eqb word name false e).1 [] (same ∙ sym (append-nil name)) in cc
