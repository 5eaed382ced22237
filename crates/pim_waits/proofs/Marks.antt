-- Marks, as threads are marked and unmarked.
use Rattle.std.proofs.Common.{◌≡◌, ℕ, zero, suc, ◌+◌, ◌<◌, ◌≤◌, ◌==◌, ◌||◌, not, Bool, true, false}
use Rattle.std.proofs.Common.{cond, List, [], ◌∷◌, ◌++◌, length, get_or, Option, Some, None, refl}
use Rattle.std.proofs.Common.{sym, ◌∙◌, ap, inl, inr, arith, unwrap_or, slice_get, count_by}
use Rattle.std.proofs.lemmas.Bool.{cases_eq, ne_eqb, eq-eqb, false≢true}
use Rattle.std.proofs.lemmas.List.Folds.{list_any-append}
use Rattle.std.proofs.lemmas.List.Sums.{sum_by-set, sum_by_push, sum_by-cons}
use Rattle.std.proofs.lemmas.Option.{slice_get_within, get_or_from_slice_get}
use Rattle.pim_base.specs.Lists.{nth, put, contains}
use Rattle.pim_base.proofs.Places.{nth-put_same, nth-put_other, length-put, nth_within}
use Rattle.pim_waits.specs.Members.{is_marked}
use Rattle.pim_waits.proofs.Lists.{contains_at, is_false}

slice_get-push_false :
    (marks : List Bool) (i : ℕ)
    → unwrap_or (slice_get (marks ++ false ∷ []) i) false ≡ unwrap_or (slice_get marks i) false
slice_get-push_false [] zero = refl
slice_get-push_false [] (suc i) = refl
slice_get-push_false (b ∷ bs) zero = refl
slice_get-push_false (b ∷ bs) (suc i) = slice_get-push_false bs i

pub is_marked-push :
    (marks : List Bool) (t : ℕ)
    → is_marked (marks ++ false ∷ []) t ≡ is_marked marks t
is_marked-push marks zero = refl
is_marked-push marks (suc i) = slice_get-push_false marks i

pub count-push : (marks : List Bool) → count_by not (marks ++ false ∷ []) ≡ count_by not marks + 1
count-push marks = sum_by_push (λ b. cond (not b) 1 0) marks false

pub is_marked-unmark :
    (marks : List Bool) (n t : ℕ)
    → is_marked (put marks n false) t ≡ cond (t == n) false (is_marked marks t)
is_marked-unmark marks n t = elim (cases_eq t n) [
  | inr ne ↦ ap (λ v. unwrap_or v false) (nth-put_other marks n t false (λ e. ne (sym e)))
      ∙ ap (λ b. cond b false (is_marked marks t)) (sym (ne_eqb t n ne))
  | inl same ↦ ap (is_marked (put marks n false)) same ∙ gone (nth (put marks n false) n) refl
      ∙ ap (λ b. cond b false (is_marked marks t)) (sym (eq-eqb t n same))
]
  where
    gone : (v : Option Bool) → nth (put marks n false) n ≡ v → unwrap_or v false ≡ false
    gone None is = refl
    gone (Some b) is =
        let fits = nth_within (put marks n false) n b is in
        let same =
        nth-put_same marks n false fits.0 (omega (arith, fits, length-put marks n false)) in
        cc

pub is_marked-mark :
    (marks : List Bool) (n t : ℕ)
    → 1 ≤ n
    → n ≤ length marks
    → is_marked (put marks n true) t ≡ cond (t == n) true (is_marked marks t)
is_marked-mark marks n t low high = elim (cases_eq t n) [
  | inr ne ↦ ap (λ v. unwrap_or v false) (nth-put_other marks n t true (λ e. ne (sym e)))
      ∙ ap (λ b. cond b true (is_marked marks t)) (sym (ne_eqb t n ne))
  | inl same ↦ ap (is_marked (put marks n true)) same ∙ ap (λ v. unwrap_or v false) (nth-put_same
      marks n true low high) ∙ ap (λ b. cond b true (is_marked marks t)) (sym (eq-eqb t n same))
]

pub count-mark :
    (marks : List Bool) (n : ℕ)
    → nth marks n ≡ Some false
    → count_by not (put marks n true) + 1 ≡ count_by not marks
count-mark marks zero is = cc
count-mark marks (suc i) is =
    omega (
      arith,
      sum_by-set (λ b. cond (not b) 1 0) marks i true false (slice_get_within marks i false is),
      ap {B = ℕ} (λ b. cond (not b) 1 0) (get_or_from_slice_get marks i false false is),
    )

pub contains-push_is :
    (xs : List ℕ) (n t : ℕ)
    → contains (xs ++ n ∷ []) t ≡ cond (t == n) true (contains xs t)
contains-push_is xs n t = list_any-append (λ x. t == x) xs (n ∷ []) ∙ turn (contains xs t) (t == n)
  where
    turn : (a b : Bool) → (a || (b || false)) ≡ cond b true a
    turn true true = refl
    turn true false = refl
    turn false true = refl
    turn false false = refl

pub count-unmarked :
    (marks : List Bool)
    → ((t : ℕ) → is_marked marks t ≡ false)
    → count_by not marks ≡ length marks
count-unmarked [] none = refl
count-unmarked (b ∷ bs) none =
    let first : b ≡ false = none 1 in
    let rest : count_by not bs ≡ length bs = count-unmarked bs (λ t. behind t) in
    sum_by-cons (λ b. cond (not b) 1 0) b bs ∙ rw first (omega (arith, rest))
  where
    behind : (t : ℕ) → is_marked bs t ≡ false
    behind zero = refl
    behind (suc i) = none (suc (suc i))

-- threads whose marks are taken away one after another
pub none_marked :
    (old new : List Bool) (threads : List ℕ)
    → ((t : ℕ) → is_marked new t ≡ true → is_marked old t ≡ true)
    → ((k : ℕ) → k < length threads → is_marked new (get_or threads k 0) ≡ false)
    → ((t : ℕ) → is_marked old t ≡ contains threads t)
    → (t : ℕ)
    → is_marked new t ≡ false
none_marked old new threads left gone marked t = is_false (is_marked new t) (λ h.
    let at = contains_at threads t (sym (marked t) ∙ left t h) in
    false≢true (sym (gone at.0 at.1) ∙ ap (is_marked new) at.2 ∙ h))

pub kept_unmarked : (same mark : Bool) → cond same false mark ≡ true → mark ≡ true
kept_unmarked true mark h = absurd (false≢true h)
kept_unmarked false mark h = h

pub still_unmarked : (same mark : Bool) → mark ≡ false → cond same false mark ≡ false
still_unmarked true mark h = refl
still_unmarked false mark h = h
