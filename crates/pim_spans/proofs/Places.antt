-- What is kept by place.
use Rattle.std.proofs.Common.{◌≡◌, ◌≢◌, ◌≤◌, ◌<◌, ◌⊎◌, ◌∙◌, ◌-◌, ◌+◌, ◌++◌, ℕ, zero, suc, List, [], ◌∷◌, length, Option}
use Rattle.std.proofs.Common.{Some, None, sym, ap, set, get_or, arith, subst, inl, inr, length-append, add-one, slice_get}
use Rattle.std.proofs.lemmas.Bool.{cases_lt}
use Rattle.std.proofs.lemmas.Bool.Decides.{eqb_tells}
use Rattle.std.proofs.lemmas.Option.{slice_get_past}
use Rattle.pim_waits.proofs.Lists.{nth-left, nth-last}
use Rattle.pim_base.specs.Lists.{nth}
use Rattle.pim_rows.proofs.Opening.{get_place, set_place, set_but}
use Rattle.pim_spans.specs.declared.track.Track.{Track}
use Rattle.pim_spans.specs.Kept.{kept_of, kept_at}

pub kept_get :
    (ts : List Track) (n : ℕ) (t : Track)
    → n ≢ 0
    → n ≤ length ts
    → t ≡ get_or ts (n - 1) t
    → kept_at ts n ≡ kept_of (Some t)
kept_get ts n t pos h e = ap kept_of (get_place ts n t pos h) ∙ ap (λ t. kept_of (Some t)) (sym e)

pub kept_set :
    (ts : List Track) (n : ℕ) (t : Track)
    → n ≢ 0
    → n ≤ length ts
    → kept_at (set ts (n - 1) t) n ≡ kept_of (Some t)
kept_set ts n t pos h = ap kept_of (set_place ts n t pos h)

pub kept_else :
    (ts : List Track) (n k : ℕ) (t : Track)
    → n ≢ 0
    → k ≢ n
    → kept_at (set ts (n - 1) t) k ≡ kept_at ts k
kept_else ts n k t pos ne = ap kept_of (set_but ts n k t pos ne)

-- one more of which nothing is kept
pub kept_push :
    (ts : List Track) (t : Track) (n : ℕ)
    → kept_of (Some t) ≡ kept_of None
    → kept_at (ts ++ t ∷ []) n ≡ kept_at ts n
kept_push ts t n nothing = go (cases_lt n (length ts + 1))
  where
    past : {X : Type 0} (xs : List X) (n : ℕ) → length xs < n → nth xs n ≡ None
    past xs zero h = absurd (omega (arith, h))
    past xs (suc i) h = slice_get_past xs i (omega (arith, h))

    last : (n : ℕ) → n ≡ suc (length ts) → kept_at (ts ++ t ∷ []) n ≡ kept_at ts n
    last n e =
        subst (λ n. kept_at (ts ++ t ∷ []) n ≡ kept_at ts n) (sym e)
        (ap kept_of (nth-last ts t) ∙ nothing ∙ sym (ap kept_of (past ts (suc (length ts)) (omega arith))))

    go : (n < length ts + 1) ⊎ (length ts + 1 ≤ n) → kept_at (ts ++ t ∷ []) n ≡ kept_at ts n
    go (inl h) = ap kept_of (nth-left ts (t ∷ []) n (omega (arith, h)))
    go (inr h) = elim (eqb_tells n (suc (length ts))) [
      | inl (_, e) ↦ last n e
      | inr (_, ne) ↦
          let len = length-append ts (t ∷ []) in
          ap kept_of (past (ts ++ t ∷ []) n (omega (arith, h, ne, len)))
          ∙ sym (ap kept_of (past ts n (omega (arith, h, ne))))
    ]

-- at the place after an index
pub kept_index :
    (ts : List Track) (i : ℕ) (o : Option Track)
    → o ≡ slice_get ts i
    → kept_at ts (i + 1) ≡ kept_of o
kept_index ts i o e = rw (add-one i) (ap kept_of (sym e))
