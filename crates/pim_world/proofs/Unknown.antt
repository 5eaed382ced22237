-- Lists of what isn't known of threads.
use Rattle.std.proofs.Common.{◌≡◌, ℕ, zero, suc, ◌++◌, ◌∷◌, List, [], Bool, Option, None}
use Rattle.std.proofs.Common.{unwrap_or, slice_get, refl, ◌∙◌, ap}
use Rattle.pim_base.specs.Lists.{nth}
use Rattle.pim_world.specs.Known.{AreKnown}

append_none :
    {A : Type 0} (xs : List (Option A)) (i : ℕ)
    → unwrap_or (slice_get (xs ++ None ∷ []) i) None ≡ unwrap_or (slice_get xs i) None
append_none [] zero = refl
append_none [] (suc i) = refl
append_none (x ∷ xs) zero = refl
append_none (x ∷ xs) (suc i) = append_none xs i

pub nth-append_none :
    {A : Type 0} (xs : List (Option A)) (n : ℕ)
    → unwrap_or (nth (xs ++ None ∷ []) n) None ≡ unwrap_or (nth xs n) None
nth-append_none xs zero = refl
nth-append_none xs (suc i) = append_none xs i

-- one thread more, of which nothing is known
pub unknown_more :
    (is_run : Bool) (old new : List (Option ℕ))
    → new ≡ old ++ None ∷ []
    → AreKnown is_run old
    → AreKnown is_run new
unknown_more is_run old new e known none t =
    ap (λ xs. unwrap_or (nth xs t) None) e ∙ nth-append_none old t ∙ known none t
