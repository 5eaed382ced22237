-- The waits that are inverted.
use Rattle.std.proofs.Common.{◌≡◌, ◌≤◌, ◌<◌, ◌+◌, ℕ, zero, suc, true, false, List, length, Option}
use Rattle.std.proofs.Common.{Some, None, refl, sym, ◌∙◌, ap, subst, inl, inr, arith}
use Rattle.std.specs.Option.{option_map}
use Rattle.std.proofs.lemmas.Bool.{cases_lt}
use Rattle.std.proofs.lemmas.Bool.Decides.{eqb_tells}
use Rattle.std.proofs.lemmas.Option.{slice_get_past}
use Rattle.pim_base.specs.Lists.{nth, contains}
use Rattle.pim_rows.specs.Moments.{Moment, now}
use Rattle.pim_world.specs.Standing.{waits, inverted_by, inverted_key}
use Rattle.pim_rows.specs.AllOpen.{AreOpen, AreInverted, IsCalm}
use Rattle.pim_rows.specs.declared.open_wait.OpenWait.{OpenWait}
use Rattle.pim_rows.proofs.StillKept.{kept_here}

abbrev AreCalm : List (Option OpenWait) → List ℕ → ℕ → Type 0
AreCalm opens ts n = (t : ℕ) → t ≤ n → contains ts t ≡ false → IsCalm (nth opens t)

pub calm_none : (opens : List (Option OpenWait)) (ts : List ℕ) → AreCalm opens ts 0
calm_none opens ts zero h out o e = cc
calm_none opens ts (suc t) h out o e = absurd (omega (arith, h))

pub calm_more : (opens : List (Option OpenWait)) (old new : List ℕ) (n : ℕ)
    → ((t : ℕ) → contains new t ≡ false → contains old t ≡ false)
    → (contains new (n + 1) ≡ false → IsCalm (nth opens (n + 1)))
    → AreCalm opens old n → AreCalm opens new (n + 1)
calm_more opens old new n kept here calm t h out = elim (eqb_tells t (n + 1)) [
  | inl (_, e) ↦
      let P : ℕ → Type 0 = λ t. IsCalm (nth opens t) in
      subst P (sym e) (here (ap (contains new) (sym e) ∙ out))
  | inr (_, ne) ↦ calm t (omega (arith, h, ne)) (kept t out)
]

calm_past : (opens : List (Option OpenWait)) (t : ℕ) → length opens < t → IsCalm (nth opens t)
calm_past opens zero h o e = cc
calm_past opens (suc i) h o e =
    let no : None ≡ Some (Some o) = sym (slice_get_past opens i (omega (arith, h))) ∙ e in cc

pub calm_all :
    (opens : List (Option OpenWait)) (ts : List ℕ) (n : ℕ)
    → length opens ≤ n
    → AreCalm opens ts n
    → AreInverted ts opens
calm_all opens ts n all calm t out = elim (cases_lt n t) [
  | inl past ↦ calm_past opens t (omega (arith, all, past))
  | inr h ↦ calm t h out
]

no_key : {A B : Type 0} (f : A → B) (o : Option A) → option_map f o ≡ None → o ≡ None
no_key f None e = refl
no_key f (Some x) e = cc

-- a thread that waits, and isn't one of these, isn't inverted
pub calm_now :
    (ms : List Moment) (opens : List (Option OpenWait)) (ts : List ℕ)
    → AreOpen opens ms
    → AreInverted ts opens
    → (t : ℕ) → waits t (now ms) ≡ true → contains ts t ≡ false → inverted_by (now ms) t ≡ None
calm_now ms opens ts are inverted t lasts out =
    let kept = are.all t lasts in
    let follows = are.each t kept.0 kept.1 in
    let none : kept.0.standing.inverted ≡ None =
    inverted t out kept.0 (kept_here (nth opens t) kept.0 (sym kept.1)) in
    no_key (inverted_key (now ms) t)
    (inverted_by (now ms) t) (ap (λ s. s.inverted) follows.current ∙ none)
