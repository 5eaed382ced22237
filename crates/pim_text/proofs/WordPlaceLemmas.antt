-- Words by their places.
use Rattle.std.proofs.Common.{◌≡◌, ◌∙◌, ℕ, zero, suc, ◌-◌, List, ◌∷◌, Some, arith, refl, ap, codes}
use Rattle.std.specs.List.{slice_get}
use Rattle.pim_base.specs.Spelling.{version_line}
use Rattle.pim_text.specs.Reading.{IsVersion}
use Rattle.pim_text.proofs.ReadingLemmas.{other_version}

-- the first of a list, and one behind it
pub get-first : {X : Type 0} (xs ys : List X) (x : X) (k : ℕ) → xs ≡ x ∷ ys → k ≡ 0 → slice_get xs k ≡ Some x
get-first xs ys x k cut first = ap (slice_get xs) first ∙ ap (λ l. slice_get l 0) cut

pub get-later :
    {X : Type 0} (xs ys : List X) (x : X) (k : ℕ)
    → xs ≡ x ∷ ys
    → (k ≡ 0 → ⊥)
    → slice_get xs k ≡ slice_get ys (k - 1)
get-later xs ys x zero cut later = absurd (later refl)
get-later xs ys x (suc k) cut later =
    ap (λ l. slice_get l (suc k)) cut ∙ ap (slice_get ys) (let same : k ≡ suc k - 1 = omega arith in same)

-- a line that names neither version
pub no_version :
    (line : List ℕ)
    → (line ≡ codes "pim 1" → ⊥)
    → (line ≡ codes "pim 2" → ⊥)
    → (v : ℕ)
    → IsVersion v
    → line ≡ version_line v
    → ⊥
no_version line first second = other_version line first second
