-- Words that spell no reply.
use Rattle.std.proofs.Common.{◌≡◌, ◌<◌, ◌^◌, ℕ, List, [], ◌∷◌, codes, None, arith}
use Rattle.std.specs.Fmt.{decimal}
use Rattle.pim_base.specs.declared.steps.Refusal.{Refusal}
use Rattle.pim_base.specs.Spelling.{IsNumber, IsReply, reply_words, refusal_word}
use Rattle.pim_text.specs.Reading.{words, ReadsAs}
use Rattle.pim_text.proofs.WordLemmas.{some_word, only_word}

-- ---- replies of a word and its argument

-- a word with an argument, if none of these is spelled
no_argument :
    (w argument : List ℕ) (rest : List (List ℕ))
    → rest ≡ words argument
    → (rest ≡ [] → ⊥)
    → ((t : ℕ) → IsNumber t → w ≡ codes "handed" → argument ≡ decimal t → ⊥)
    → ((k : ℕ) → k < 2 ^ 16 → w ≡ codes "released" → argument ≡ decimal k → ⊥)
    → ((r : Refusal) → w ≡ codes "refused" → argument ≡ refusal_word r → ⊥)
    → ReadsAs IsReply reply_words (w ∷ rest) None
no_argument w argument rest cut some handed released refused h is e = grind (arith, only_word)

pub no_handed :
    (w argument : List ℕ)
    → w ≡ codes "handed"
    → ReadsAs IsNumber decimal argument None
    → ReadsAs IsReply reply_words (w ∷ words argument) None
no_handed w argument is none = grind (arith, no_argument)

pub no_released :
    (w argument : List ℕ)
    → w ≡ codes "released"
    → ReadsAs (λ n. n < 2 ^ 16) decimal argument None
    → ReadsAs IsReply reply_words (w ∷ words argument) None
no_released w argument is none = grind (arith, no_argument)

pub no_refused :
    (w argument : List ℕ)
    → w ≡ codes "refused"
    → ((r : Refusal) → argument ≡ refusal_word r → ⊥)
    → ReadsAs IsReply reply_words (w ∷ words argument) None
no_refused w argument is none = grind (arith, no_argument)

-- it is none of the words that have an argument
pub no_such_reply :
    (w argument : List ℕ)
    → (w ≡ codes "handed" → ⊥)
    → (w ≡ codes "released" → ⊥)
    → (w ≡ codes "refused" → ⊥)
    → ReadsAs IsReply reply_words (w ∷ words argument) None
no_such_reply w argument handed released refused = grind (arith, some_word)

-- ---- such replies that are spelled

pub spells_with :
    (w argument verb word : List ℕ)
    → w ≡ verb
    → words argument ≡ word ∷ []
    → w ∷ words argument ≡ verb ∷ word ∷ []
spells_with w argument verb word e f = cc
