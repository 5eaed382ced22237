-- What a task asks for from one entry on, compared with what is due from there on.
use Rattle.std.proofs.Common.{◌≡◌, ◌≢◌, ◌<◌, ◌↔◌, ℕ, zero, suc, List, [], ◌∷◌, Some, None, length, drop, ◌++◌, get_or, slice_get, refl, sym, ap, ◌∙◌, eq-eqb, ne_eqb, drop-cons, add-one, ◌+◌, ◌≤◌}
use Rattle.std.proofs.Math.ListN.{drop_of_length-le}
use Rattle.pim_base.specs.Runs.{asked_by}
use Rattle.pim_base.specs.declared.steps.Entry.{Entry}
use Rattle.pim_base.specs.declared.steps.Op.{Op}

-- the entries from this one on ask for its step first, if it is the task's
asked_by-drop_own : (t : ℕ) (es : List Entry) (i : ℕ) (e : Entry) → i < length es → e ≡ get_or es i e → e.step.actor ≡ t
    → asked_by t (drop i es) ≡ e.step.op ∷ asked_by t (drop (suc i) es)
asked_by-drop_own t es i e within is own =
    ap (asked_by t) (drop-cons es i e within ∙ ap (λ (x : Entry). x ∷ drop (suc i) es) (sym is))
    ∙ rw (eq-eqb e.step.actor t own) refl

-- and only for what comes after it, if it is another task's
asked_by-drop_other : (t : ℕ) (es : List Entry) (i : ℕ) (e : Entry) → i < length es → e ≡ get_or es i e → e.step.actor ≢ t
    → asked_by t (drop i es) ≡ asked_by t (drop (suc i) es)
asked_by-drop_other t es i e within is other =
    ap (asked_by t) (drop-cons es i e within ∙ ap (λ (x : Entry). x ∷ drop (suc i) es) (sym is))
    ∙ rw (ne_eqb e.step.actor t other) refl

-- ys from the place k on is x and these items exactly if x is at k and these items come after it
cons_is_drop : {X : Type 0} (x : X) (xs ys : List X) (k : ℕ) → (x ∷ xs ≡ drop k ys) ↔ (slice_get ys k ≡ Some x) × (xs ≡ drop (suc k) ys)
cons_is_drop x xs [] zero = (λ e. cc, λ h. let f = h.0 in cc)
cons_is_drop x xs [] (suc k) = (λ e. cc, λ h. let f = h.0 in cc)
cons_is_drop x xs (y ∷ ys) zero = (λ e. (cc, cc), λ h. let f = h.0 in let g = h.1 in cc)
cons_is_drop x xs (y ∷ ys) (suc k) = cons_is_drop x xs ys k

-- nothing is left of ys from the place k on if nothing is at k
nil_is_drop : {X : Type 0} (ys : List X) (k : ℕ) → (slice_get ys k ≡ None) ↔ ([] ≡ drop k ys)
nil_is_drop [] zero = (λ e. refl, λ e. refl)
nil_is_drop [] (suc k) = (λ e. refl, λ e. refl)
nil_is_drop (y ∷ ys) zero = (λ e. cc, λ e. cc)
nil_is_drop (y ∷ ys) (suc k) = nil_is_drop ys k

-- a script and then one release of all
abbrev pub with_release : List Op → List Op
with_release script = script ++ Op.ReleaseAll ∷ []

-- what the task asks for from entry i on is what is left of its script, with the release, from place k on
abbrev pub GoesOn : ℕ → List Entry → List Op → ℕ → ℕ → Type 0
GoesOn t es script i k = asked_by t (drop i es) ≡ drop k (with_release script)

-- if entry i is the task's, its step is at place k, and both go on after it
pub own_goes_on : (t : ℕ) (es : List Entry) (script : List Op) (i k : ℕ) (e : Entry) → i < length es → e ≡ get_or es i e → e.step.actor ≡ t
    → GoesOn t es script i k ↔ (slice_get (with_release script) k ≡ Some e.step.op) × GoesOn t es script (i + 1) (k + 1)
own_goes_on t es script i k e within is own =
    let step = asked_by-drop_own t es i e within is own in
    let both = cons_is_drop e.step.op (asked_by t (drop (suc i) es)) (with_release script) k in
    rw add-one (rw add-one (λ h. both.0 (sym step ∙ h), λ h. step ∙ both.1 h))

-- if it is another task's, the entries go on after it
pub other_goes_on : (t : ℕ) (es : List Entry) (script : List Op) (i k : ℕ) (e : Entry) → i < length es → e ≡ get_or es i e → e.step.actor ≢ t
    → GoesOn t es script i k ↔ GoesOn t es script (i + 1) k
other_goes_on t es script i k e within is other =
    let step = asked_by-drop_other t es i e within is other in
    rw add-one (λ h. sym step ∙ h, λ h. step ∙ h)

-- past the last entry nothing is asked for, so nothing is at place k
pub end_goes_on : (t : ℕ) (es : List Entry) (script : List Op) (i k : ℕ) → length es ≤ i → GoesOn t es script i k ↔ (slice_get (with_release script) k ≡ None)
end_goes_on t es script i k past =
    let nothing : asked_by t (drop i es) ≡ [] = ap (asked_by t) (drop_of_length-le es past) in
    let both = nil_is_drop (with_release script) k in
    (λ h. both.1 (sym nothing ∙ h), λ h. nothing ∙ both.0 h)
