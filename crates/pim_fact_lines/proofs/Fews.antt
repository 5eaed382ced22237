-- The words that are left of a line, one after another.
use Rattle.std.proofs.Common.{◌≡◌, ℕ, ◌+◌, ◌-◌, ◌<◌, ◌≤◌, suc, List, [], ◌∷◌, Bool, true, false}
use Rattle.std.proofs.Common.{◌&&◌, not, length}
use Rattle.std.proofs.Common.{Option, Some, None, is_some, leb, arith, refl, sym, ap, ◌∙◌, Bor}
use Rattle.std.specs.List.{list_all}
use Rattle.std.proofs.lemmas.Bool.{le-leb}
use Rattle.std.proofs.lemmas.Bool.Decides.{nat_tests}
use Rattle.pim_fact_lines.specs.Words.{words}
use Rattle.pim_fact_lines.specs.Lines.{is_nothing}
use Rattle.pim_fact_lines.specs.Reading.{words_after}
use Rattle.pim_fact_lines.proofs.Names.{some_word}

-- nothing is left, or bytes with a word
pub nothing_left :
    (tail : Option (Bor (List ℕ))) (r : Bool)
    → is_some tail ≡ not r
    → r ≡ is_nothing (words_after tail)
nothing_left None true e = refl
nothing_left None false e = cc
nothing_left (Some rest) true e = cc
nothing_left (Some rest) false e = split (words rest.now) refl
  where
    split : (ws : List (List ℕ)) → words rest.now ≡ ws → false ≡ is_nothing ws
    split [] none = absurd (some_word rest.now none)
    split (w ∷ ws) some = refl

-- ---- at most 16 words, each of which passes

one_less : (a k : ℕ) → k < 16 → leb (suc a) (16 - k) ≡ leb a (16 - (k + 1))
one_less a k more = grind (arith, nat_tests)

both_false : (b : Bool) → (b && false) ≡ false
both_false true = refl
both_false false = refl

-- k words passed; the answer is that of the words that are left, of which fewer may come
abbrev pub Halfway : (List ℕ → Bool) → Bool → ℕ → Option (Bor (List ℕ)) → Type 0
Halfway p answer k left =
    (leb (length (words_after left)) (16 - k) && list_all p (words_after left)) ≡ answer

module _ (p : List ℕ → Bool)
    (answer : Bool) (k : ℕ) (left : Option (Bor (List ℕ))) (before : Halfway p answer k left) where
  pub none_left : left ≡ None → true ≡ answer
  none_left e =
      sym (let low : leb 0 (16 - k) ≡ true = le-leb 0 (16 - k) (omega arith) in rw low refl)
      ∙ (rw e at before)

  module _ (bytes : Bor (List ℕ)) (w : List ℕ)
      (ws : List (List ℕ)) (e : left ≡ Some bytes) (cut : words bytes.now ≡ w ∷ ws) where
    pub other_next : p w ≡ false → false ≡ answer
    other_next other = sym (both_false _) ∙ (rw other at (rw cut at (rw e at before)))

  pub one_more :
      (bytes : Bor (List ℕ)) (w : List ℕ) (rest : Option (Bor (List ℕ)))
      → left ≡ Some bytes
      → words bytes.now ≡ w ∷ words_after rest
      → k < 16
      → p w ≡ true
      → Halfway p answer (k + 1) rest
  one_more bytes w rest e cut more passes =
      rw (← one_less (length (words_after rest)) k more) (rw passes at (rw cut at (rw e at before)))

  pub after_last : (r : Bool) → 16 ≤ k → is_some left ≡ not r → r ≡ answer
  after_last r full e =
      nothing_left left r e
      ∙ last (words_after left)
      ∙ ap (λ n. leb (length (words_after left)) n && list_all p (words_after left)) none_more
      ∙ before
    where
      none_more : 0 ≡ 16 - k
      none_more = omega arith

      last : (ws : List (List ℕ)) → is_nothing ws ≡ (leb (length ws) 0 && list_all p ws)
      last [] = let low : leb 0 0 ≡ true = le-leb 0 0 (omega arith) in rw low refl
      last (v ∷ ws) =
          let high : leb (suc (length ws)) 0 ≡ false = grind (arith, nat_tests) in rw high refl
