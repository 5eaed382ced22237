-- The numbers that pass a test, one after another.
use Rattle.std.proofs.Common.{◌≡◌, ◌<◌, ℕ, zero, suc, Bool, true, false, ◌++◌, ◌∷◌, [], ◌∙◌, ap}
use Rattle.std.proofs.Common.{arith}
use Rattle.std.proofs.lemmas.List.Sums.{fold-append}
use Rattle.std.specs.List.{fold, filter}
use Rattle.pim_base.specs.Lists.{numbers}
use Rattle.pim_base.proofs.Greatest.{filter_numbers-pass}
use Rattle.pim_base.proofs.HandOvers.{filter_numbers-until}

-- the next number that passes
pub filtered-next :
    (p : ℕ → Bool) (last next : ℕ)
    → last < next → p next ≡ true → ((k : ℕ) → last < k → k < next → p k ≡ false)
    → filter p (numbers next) ≡ filter p (numbers last) ++ next ∷ []
filtered-next p last zero less is none = absurd (omega (arith, less))
filtered-next p last (suc m) less is none =
    filter_numbers-pass p (suc m) m (omega arith) is
    ∙ ap (λ xs. xs ++ suc m ∷ [])
    (filter_numbers-until p last m
    (omega (arith, less)) (λ k low high. none k low (omega (arith, high))))

-- one number more, of those that pass
pub fold_filtered-next :
    {A : Type 0} (f : A → ℕ → A) (x : A) (p : ℕ → Bool) (last next : ℕ)
    → last < next → p next ≡ true → ((k : ℕ) → last < k → k < next → p k ≡ false)
    → fold f x (filter p (numbers next)) ≡ f (fold f x (filter p (numbers last))) next
fold_filtered-next f x p last next less is none =
    ap (fold f x) (filtered-next p last next less is none)
    ∙ fold-append f x (filter p (numbers last)) (next ∷ [])
