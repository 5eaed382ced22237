-- What the work of walks records of a change of the stored priorities.
use Rattle.std.proofs.Common.{◌≡◌, ◌==◌, ℕ, ◌+◌, ◌≤◌, Bool, true, false, inl, inr, refl, sym, ◌∙◌, ap, arith, Option, Some, None, IsSome, unwrap_or, if◌then◌else◌}
use Rattle.std.specs.Option.{option_and_then}
use Rattle.std.proofs.lemmas.Bool.{both_ways, cases_eq, eqb-true, eq-eqb}
use Rattle.pim_sets.specs.Work.{Work, Noted, noted_in, noted_of, note_of, AreChanged, IsNoted, KeepsTelling, VisitedOnce, Tells}
use Rattle.pim_chain.proofs.Walking.{differing_none, differing_one, differing_over}

-- ---- the notes
pub keeps-trans :
    (n : ℕ) (f g h : ℕ → ℕ) (a b d : Work)
    → KeepsTelling n f a g b
    → KeepsTelling n g b h d
    → KeepsTelling n f a h d
keeps-trans n f g h a b d one two = (
  two.0 ∙ one.0,
  λ some t low high. two.1 (one.0 ∙ some) t low high ∙ one.1 some t low high,
  λ noted. two.2 (one.2 noted),
)

-- the noted tasks are changed ones, also of equal priorities
changed-same :
    (n : ℕ) (f g : ℕ → ℕ) (a : Work)
    → ((t : ℕ) → 1 ≤ t → t ≤ n → g t ≡ f t)
    → AreChanged n f a
    → AreChanged n g a
changed-same n f g a same noted t p is =
    let at = noted t p is in (at.0, at.1, λ e. at.2 (e ∙ same t at.0 at.1))

-- what has a note keeps notes
notes_kept : (w : Work) (t p : ℕ) → noted_of w t ≡ Some p → IsSome w.notes
notes_kept w t p is = go w.notes is
  where
    go : (n : Option Noted) → option_and_then (λ (m : Noted). noted_in m t) n ≡ Some p → IsSome n
    go None e = cc
    go (Some m) e = refl

-- ---- one visit, which is counted
-- the note of a task gives what it had at first, and isn't what it has
note_of-gives : (had prio : ℕ) → unwrap_or (note_of had prio) prio ≡ had
note_of-gives had prio = go (had == prio) refl
  where
    go : (b : Bool) → (had == prio) ≡ b → unwrap_or (if b then None else Some had) prio ≡ had
    go true is = sym (eqb-true had prio is)
    go false is = refl

note_of-differs : (had prio p : ℕ) → note_of had prio ≡ Some p → p ≡ prio → ⊥
note_of-differs had prio p is same = go (had == prio) refl is
  where
    go : (b : Bool) → (had == prio) ≡ b → (if b then None else Some had) ≡ Some p → ⊥
    go true at e = cc
    go false at e = both_ways _ at (eq-eqb had prio (ap (λ o. unwrap_or o had) e ∙ same))

-- it changes the priority of x, and notes the one before
pub worked-noted :
    (n : ℕ) (f g : ℕ → ℕ) (a b d : Work) (x had prio : ℕ)
    → (1 ≤ x) × (x ≤ n)
    → b ≡ record a { count = a.count + 1 }
    → had ≡ f x
    → IsNoted b x had prio d
    → g x ≡ prio
    → ((u : ℕ) → (u ≡ x → ⊥) → g u ≡ f u)
    → VisitedOnce n f a g d
worked-noted n f g a b d x had prio known is same noted now others =
    let here = rw (is, same) at noted in
    record {
      counted = here.count;
      noted = (
        here.keeps,
        λ some t _ _. elim (cases_eq t x) [
          | inl at ↦ rw (at, now, here.first some) (note_of-gives (unwrap_or (noted_of a x) (f x)) prio)
          | inr ne ↦ cc (here.others t ne, others t ne)
        ],
        λ before t p noted_p. elim (cases_eq t x) [
          | inl at ↦ (rw at known.0, rw at known.1, λ e. differs here t p at noted_p e)
          | inr ne ↦
              let was = before t p (sym (here.others t ne) ∙ noted_p) in (was.0, was.1, λ e. was.2 (e ∙ others t ne))
        ],
      );
    }
  where
    differs : IsNoted (record a { count = a.count + 1 }) x (f x) prio d → (t p : ℕ) → t ≡ x → noted_of d t ≡ Some p → p ≡ g t → ⊥
    differs here t p at noted_p e =
        note_of-differs (unwrap_or (noted_of a x) (f x)) prio p
        (sym (here.first (kept here (rw at at noted_p))) ∙ (rw at at noted_p)) (e ∙ ap g at ∙ now)
      where
        kept : IsNoted (record a { count = a.count + 1 }) x (f x) prio d → noted_of d x ≡ Some p → IsSome a.notes
        kept here is_noted = sym here.keeps ∙ notes_kept d x p is_noted

-- ---- the work of several walks
pub tells-same : (n : ℕ) (f g : ℕ → ℕ) (a : Work) → ((t : ℕ) → 1 ≤ t → t ≤ n → g t ≡ f t) → Tells n f a g a
tells-same n f g a same = record {
  counted = omega (arith, differing_none n f g same);
  noted = (refl, λ some t low high. ap (unwrap_or (noted_of a t)) (same t low high), changed-same n f g a same);
}

pub tells-refl : (n : ℕ) (f : ℕ → ℕ) (a : Work) → Tells n f a f a
tells-refl n f a = tells-same n f f a (λ t low high. refl)

-- one visit, which changes the priority of x alone, if any
pub tells-once :
    (n : ℕ) (f g : ℕ → ℕ) (a b : Work) (x : ℕ)
    → VisitedOnce n f a g b
    → ((u : ℕ) → (u ≡ x → ⊥) → g u ≡ f u)
    → Tells n f a g b
tells-once n f g a b x once others = record {
  counted = omega (arith, once.counted, differing_one n f g x others);
  noted = once.noted;
}

pub tells-trans : (n : ℕ) (f g h : ℕ → ℕ) (a b d : Work) → Tells n f a g b → Tells n g b h d → Tells n f a h d
tells-trans n f g h a b d one two = record {
  counted = omega (arith, one.counted, two.counted, differing_over n f g h);
  noted = keeps-trans n f g h a b d one.noted two.noted;
}

-- a walk that follows work, whose tasks are as many
pub tells_over :
    (n k : ℕ) (f g h : ℕ → ℕ) (a b d : Work)
    → Tells n f a g b
    → k ≡ n
    → Tells k g b h d
    → Tells n f a h d
tells_over n k f g h a b d one same two = tells-trans n f g h a b d one (rw same at two)
