-- What changes leave as it is.
use Rattle.std.proofs.Common.{◌≡◌, ℕ, Bool, true, false, ◌||◌, List, [], ◌∷◌, ◌++◌, refl, sym}
use Rattle.std.proofs.Common.{append-nil}
use Rattle.std.specs.Prelude.{◌==◌}
use Rattle.pim_base.specs.Lists.{contains}
use Rattle.pim_base.specs.State.{State, with_count}
use Rattle.pim_waits.specs.Touched.{Touches}

pub touches_none : (S : State) (before : List ℕ) → Touches S S before before
touches_none S before = record {
  touched = [];
  appended = sym (append-nil before);
  others = λ t task other. record {
    each = λ u on. record { gets = refl; base = refl; wait = λ v e. refl; blocker = refl };
    runner = refl;
    blame = refl;
    way = refl;
  };
}

pub touches_count :
    (S : State) (m n : ℕ) (before : List ℕ)
    → Touches S (with_count S m n) before before
touches_count S m n before = record {
  touched = [];
  appended = sym (append-nil before);
  others = λ t task other. record {
    each = λ u on. record { gets = refl; base = refl; wait = λ v e. refl; blocker = refl };
    runner = refl;
    blame = refl;
    way = refl;
  };
}

pub outside_both :
    (xs ys : List ℕ) (t : ℕ)
    → contains (xs ++ ys) t ≡ false
    → (contains xs t ≡ false) × (contains ys t ≡ false)
outside_both [] ys t out = (refl, out)
outside_both (x ∷ xs) ys t out = go (t == x) out (outside_both xs ys t)
  where
    go : (b : Bool) → (b || contains (xs ++ ys) t) ≡ false
        → (contains (xs ++ ys) t ≡ false → (contains xs t ≡ false) × (contains ys t ≡ false))
        → ((b || contains xs t) ≡ false) × (contains ys t ≡ false)
    go true out rest = absurd (let no : true ≡ false = out in cc)
    go false out rest = rest out
