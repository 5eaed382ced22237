-- The first lines of a text are a text again.
use Rattle.std.proofs.Common.{◌≡◌, ℕ, zero, suc, ◌-◌, ◌<◌, inl, inr, List, [], ◌∷◌, take, Bool}
use Rattle.std.proofs.Common.{true, false}
use Rattle.std.proofs.Common.{Option, Some, None, is_some, arith, refl, sym, ◌∙◌, subst}
use Rattle.std.specs.Option.{option_map}
use Rattle.std.proofs.lemmas.List.{take-take}
use Rattle.std.proofs.lemmas.Bool.{cases_order}
use Rattle.pim_fact_lines.specs.declared.line.Line.{Line}
use Rattle.pim_fact_lines.specs.Lines.{given}
use Rattle.pim_fact_lines.specs.Texts.{is_header}
use Rattle.pim_world.specs.Worlds.{World, no_world}
use Rattle.pim_world.specs.After.{after}
use Rattle.pim_world.specs.Texts.{line_after, lines_after, IsText, IsFirstInvalid}
use Rattle.pim_world.specs.Laws.{AtMostOneIsFirst, ValidHasNone}

-- a list with one line more is there if the list is
pub is_some-option_map :
    {A B : Type 0} (f : A → B) (o : Option A)
    → is_some (option_map f o) ≡ is_some o
is_some-option_map f None = refl
is_some-option_map f (Some x) = refl

follow_front :
    (w : World) (ls : List (List ℕ)) (n : ℕ)
    → is_some (lines_after w ls) ≡ true
    → is_some (lines_after w (take n ls)) ≡ true
follow_front w [] zero is = refl
follow_front w [] (suc n) is = refl
follow_front w (l ∷ ls) zero is = refl
follow_front w (l ∷ ls) (suc n) is =
    go (line_after w l) (λ line. follow_front (after w line) ls n) is
  where
    go :
        (next : Option Line)
        → ((line : Line)
        → is_some (lines_after (after w line) ls) ≡ true
        → is_some (lines_after (after w line) (take n ls)) ≡ true)
        → is_some (given next
        (λ line. option_map (λ xs. line ∷ xs) (lines_after (after w line) ls))) ≡ true
        → is_some (given next
        (λ line. option_map (λ xs. line ∷ xs) (lines_after (after w line) (take n ls)))) ≡ true
    go None front is = cc
    go (Some line) front is =
        is_some-option_map (λ xs. line ∷ xs) (lines_after (after w line) (take n ls))
        ∙ front line
        (sym (is_some-option_map (λ xs. line ∷ xs) (lines_after (after w line) ls)) ∙ is)

front_is : (ls : List (List ℕ)) (n : ℕ) → 0 < n → IsText ls → IsText (take n ls)
front_is ls zero some is = absurd (omega arith)
front_is [] (suc n) some is = cc
front_is (first ∷ ls) (suc n) some is = split (is_header first) refl
  where
    split : (b : Bool) → is_header first ≡ b → IsText (first ∷ take n ls)
    split false other = let bad : false ≡ true = sym (rw other refl) ∙ is in cc
    split true one = rw one (follow_front no_world ls n (sym (rw one refl) ∙ is))

pub valid_has_none : ValidHasNone
valid_has_none ls n is bad = bad.2 (front_is ls n bad.1 is)

-- no later line is the first
not_later : (ls : List (List ℕ)) (n k : ℕ) → n < k → IsFirstInvalid ls n → IsFirstInvalid ls k → ⊥
not_later ls n k before bad later = elim later.0 [
  | inl one ↦ omega (arith, one, before, bad.1)
  | inr is ↦ bad.2 (subst IsText
      (take-take n (k - 1) ls (omega (arith, before))) (front_is (take (k - 1) ls) n bad.1 is))
]

pub at_most_one_is_first : AtMostOneIsFirst
at_most_one_is_first ls n k bad other = elim (cases_order n k) [
  | inl same ↦ same
  | inr (inl before) ↦ absurd (not_later ls n k before bad other)
  | inr (inr before) ↦ absurd (not_later ls k n before other bad)
]
