-- What is kept of what lasts, after one line more.
use Rattle.std.proofs.Common.{◌≡◌, ◌≢◌, ℕ, zero, suc, Bool, true, false, not, ◌&&◌, List, ◌∷◌}
use Rattle.std.proofs.Common.{Option, Some, refl, sym, ◌∙◌, ap, subst, inl, inr, if◌then◌else◌}
use Rattle.std.proofs.lemmas.Bool.Decides.{eqb_tells}
use Rattle.pim_world.specs.Worlds.{World}
use Rattle.pim_world.specs.After.{set}
use Rattle.pim_rows.specs.Moments.{Moment, now, began, first_moments}
use Rattle.pim_world.specs.Standing.{waits}
use Rattle.pim_rows.specs.Begun.{is_blocked, is_owned}
use Rattle.pim_rows.specs.Kept.{AreStarts}

-- at line 1 nothing waits, is blocked or is owned
pub nothing_waits : (n : ℕ) → waits n (now first_moments) ≡ false
nothing_waits zero = refl
nothing_waits (suc n) = refl

pub nothing_is_blocked : (n : ℕ) → is_blocked n (now first_moments) ≡ false
nothing_is_blocked zero = refl
nothing_is_blocked (suc n) = refl

pub nothing_is_owned : (n : ℕ) → is_owned n (now first_moments) ≡ false
nothing_is_owned zero = refl
nothing_is_owned (suc n) = refl

pub no_starts :
    {D : Type 0} (holds : ℕ → World → Bool) (start : ℕ → List Moment → D) (kept : ℕ → Option D)
    → ((n : ℕ) → holds n (now first_moments) ≡ false) → AreStarts holds start kept first_moments
no_starts holds start kept none n h = absurd (let e : false ≡ true = sym (none n) ∙ h in cc)

-- what held before began then
pub began_before :
    (holds : World → Bool) (m : Moment) (ms : List Moment)
    → holds (now ms) ≡ true
    → began holds (m ∷ ms) ≡ began holds ms
began_before holds m ms h = rw h refl

-- what didn't hold begins now
pub began_now :
    (holds : World → Bool) (m : Moment) (ms : List Moment)
    → holds (now ms) ≡ false
    → began holds (m ∷ ms) ≡ m ∷ ms
began_now holds m ms h = rw h refl

pub set_same : {A : Type 0} (n : ℕ) (x : A) (of : ℕ → A) → set n x of n ≡ x
set_same n x of = elim (eqb_tells n n) [ inl (h, _) ↦ rw h refl | inr (_, ne) ↦ absurd (ne refl) ]

pub set_other : {A : Type 0} (n k : ℕ) (x : A) (of : ℕ → A) → n ≢ k → set n x of k ≡ of k
set_other n k x of ne = elim (eqb_tells n k) [ inl (_, e) ↦ absurd (ne e) | inr (h, _) ↦ rw h refl ]

module _ {D : Type 0}
    (holds : ℕ → World → Bool) (start : ℕ → List Moment → D) (m : Moment) (ms : List Moment) where
  -- it holds of this number after the line as it did before
  abbrev pub Keeps : ℕ → Type 0
  Keeps k = holds k m.world ≡ holds k (now ms)

  -- what is kept of a number of which it holds as before
  keeps_start :
      (old new : ℕ → Option D) (k : ℕ)
      → Keeps k
      → new k ≡ old k
      → AreStarts holds start old ms
      → holds k m.world ≡ true
      → new k ≡ Some (start k (began (holds k) (m ∷ ms)))
  keeps_start old new k same kept are h =
      let before : holds k (now ms) ≡ true = sym same ∙ h in
      kept ∙ are k before ∙ ap (λ s. Some (start k s)) (sym (began_before (holds k) m ms before))

  -- nothing begins or ends
  pub starts_kept :
      (kept : ℕ → Option D)
      → ((k : ℕ) → Keeps k)
      → AreStarts holds start kept ms
      → AreStarts holds start kept (m ∷ ms)
  starts_kept kept same are k h = keeps_start kept kept k (same k) refl are h

  -- it may begin or end for one number
  begins_at :
      (kept : ℕ → Option D) (n : ℕ) (was is : Bool)
      → was ≡ holds n (now ms)
      → is ≡ holds n m.world
      → AreStarts holds start kept ms
      → holds n m.world ≡ true
      → (if not was && is then set n (Some (start n (m ∷ ms))) kept else kept) n
      ≡ Some (start n (began (holds n) (m ∷ ms)))
  begins_at kept n true is was_is is_is are h = keeps_start kept kept n (h ∙ was_is) refl are h
  begins_at kept n false true was_is is_is are h =
      set_same n (Some (start n (m ∷ ms))) kept
      ∙ ap (λ s. Some (start n s)) (sym (began_now (holds n) m ms (sym was_is)))
  begins_at kept n false false was_is is_is are h = absurd (let e : false ≡ true = is_is ∙ h in cc)

  kept_else :
      (kept : ℕ → Option D) (n k : ℕ) (b : Bool)
      → n ≢ k
      → (if b then set n (Some (start n (m ∷ ms))) kept else kept) k ≡ kept k
  kept_else kept n k true ne = set_other n k (Some (start n (m ∷ ms))) kept ne
  kept_else kept n k false ne = refl

  pub starts_followed :
      (old new : ℕ → Option D) (n : ℕ) (was is : Bool)
      → ((k : ℕ) → n ≢ k → Keeps k)
      → was ≡ holds n (now ms)
      → is ≡ holds n m.world
      → new ≡ (if not was && is then set n (Some (start n (m ∷ ms))) old else old)
      → AreStarts holds start old ms
      → AreStarts holds start new (m ∷ ms)
  starts_followed old new n was is others was_is is_is e are k h =
      rw e
      (elim (eqb_tells n k) [
        | inl (_, same) ↦
            let P : ℕ → Type 0 = λ k. holds k m.world ≡ true → (if not was && is then set n (Some
            (start n (m ∷ ms))) old else old) k ≡ Some (start k (began (holds k) (m ∷ ms))) in
            subst P same (begins_at old n was is was_is is_is are) h
        | inr (_, ne) ↦ keeps_start old (if not was && is then set n (Some (start n (m ∷ ms))) old
            else old) k (others k ne) (kept_else old n k (not was && is) ne) are h
      ])
