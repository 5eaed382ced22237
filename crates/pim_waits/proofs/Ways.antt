-- The end of a way, and the first mutex on it that passes less.
use Rattle.std.proofs.Common.{◌≡◌, ℕ, true, zero, suc, List, [], ◌∷◌, Option, Some, None, refl, sym}
use Rattle.std.proofs.Common.{◌∙◌, ap, filter_map}
use Rattle.std.specs.Option.{option_map_or}
use Rattle.std.proofs.lemmas.Option.{same_Some}
use Rattle.pim_base.specs.Lists.{first_item, contains}
use Rattle.pim_base.specs.Chains.{chain}
use Rattle.pim_waits.specs.Waiting.{last_item}
use Rattle.pim_waits.proofs.Lists.{contains-first, contains-later}

pub last_item-end :
    (hop : ℕ → Option ℕ) (n t : ℕ)
    → hop t ≡ None
    → last_item (chain hop n t) ≡ Some t
last_item-end hop zero t e = refl
last_item-end hop (suc n) t e = ap (λ o. last_item (t ∷ option_map_or (chain hop n) o [])) e

last_item-cons :
    (hop : ℕ → Option ℕ) (n t v : ℕ)
    → last_item (t ∷ chain hop n v) ≡ last_item (chain hop n v)
last_item-cons hop zero t v = refl
last_item-cons hop (suc n) t v = refl

pub last_item-next :
    (hop : ℕ → Option ℕ) (n m t v : ℕ)
    → n ≡ suc m
    → hop t ≡ Some v
    → last_item (chain hop n t) ≡ last_item (chain hop m v)
last_item-next hop n m t v more e =
    ap (λ k. last_item (chain hop k t)) more
    ∙ ap (λ o. last_item (t ∷ option_map_or (chain hop m) o [])) e ∙ last_item-cons hop m t v

module _ (p : ℕ → Option ℕ) (hop : ℕ → Option ℕ) where
  abbrev first : List ℕ → Option ℕ
  first ts = first_item (filter_map p ts)

  first-cons_some : (t y : ℕ) (ts : List ℕ) → p t ≡ Some y → first (t ∷ ts) ≡ Some y
  first-cons_some t y ts e = rw e refl

  first-cons_none : (t : ℕ) (ts : List ℕ) → p t ≡ None → first (t ∷ ts) ≡ first ts
  first-cons_none t ts e = rw e refl

  pub first-here : (n t y : ℕ) → p t ≡ Some y → first (chain hop n t) ≡ Some y
  first-here zero t y e = first-cons_some t y [] e
  first-here (suc n) t y e = first-cons_some t y (option_map_or (chain hop n) (hop t) []) e

  pub first-end : (n t : ℕ) → p t ≡ None → hop t ≡ None → first (chain hop n t) ≡ None
  first-end zero t e last = first-cons_none t [] e
  first-end (suc n) t e last =
      first-cons_none t (option_map_or (chain hop n) (hop t) []) e
      ∙ ap (λ o. first (option_map_or (chain hop n) o [])) last

  pub first-next :
      (n m t v : ℕ)
      → n ≡ suc m
      → p t ≡ None
      → hop t ≡ Some v
      → first (chain hop n t) ≡ first (chain hop m v)
  first-next n m t v more e to =
      ap (λ k. first (chain hop k t)) more
      ∙ first-cons_none t (option_map_or (chain hop m) (hop t) []) e
      ∙ ap (λ o. first (option_map_or (chain hop m) o [])) to

-- ---- what is on a way
pub contains-last_item : (xs : List ℕ) (u : ℕ) → last_item xs ≡ Some u → contains xs u ≡ true
contains-last_item [] u e = cc
contains-last_item (x ∷ []) u e = contains-first x [] u (sym (same_Some x u e))
contains-last_item (x ∷ y ∷ ys) u e = contains-later x (y ∷ ys) u (contains-last_item (y ∷ ys) u e)

-- functions that agree on a list
pub filter_map-same :
    (p q : ℕ → Option ℕ) (xs : List ℕ)
    → ((u : ℕ) → contains xs u ≡ true → p u ≡ q u)
    → filter_map p xs ≡ filter_map q xs
filter_map-same p q [] same = refl
filter_map-same p q (x ∷ xs) same =
    let here : p x ≡ q x = same x (contains-first x xs x refl) in
    let rest = filter_map-same p q xs (λ u h. same u (contains-later x xs u h)) in
    rw (here, rest) refl
