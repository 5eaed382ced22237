-- If all mutexes are PRIO_NONE, every task has its base priority.
use Rattle.std.proofs.Common.{◌≡◌, ℕ, ◌≤◌, ◌⊎◌, inl, inr, Bool, true, false, eqb, List, [], ◌∷◌, length, map, Option, Some, None, refl, sym, ◌∙◌, ap, arith, unwrap_or, le_antisymm, rules}
use Rattle.std.proofs.lemmas.Bool.{eqb-true, eq-eqb, or_cases, or_left}
use Rattle.pim_base.specs.Lists.{nth, contains, greatest}
use Rattle.pim_base.specs.State.{State, base_of}
use Rattle.pim_base.specs.Chains.{chain, heir, inherit_chain}
use Rattle.pim_base.specs.Priorities.{own_priority, effective_priority}
use Rattle.pim_base.specs.Laws.{IsNoneOnly, NoneLaw}
use Rattle.pim_base.proofs.Greatest.{greatest-cons, le-greatest_of, greatest_of-le}
use Rattle.pim_base.proofs.Places.{nth_within}

no_heir : (S : State) → IsNoneOnly S → (u : ℕ) → heir S u ≡ None
no_heir S none u = search rules

alone : (S : State) → IsNoneOnly S → (n u : ℕ) → chain (heir S) n u ≡ u ∷ []
alone S none n u = search rules

greatest-map_zero : (f : ℕ → ℕ) (xs : List ℕ) → ((x : ℕ) → f x ≡ 0) → greatest (map f xs) ≡ 0
greatest-map_zero f [] zeros = refl
greatest-map_zero f (x ∷ xs) zeros = omega (arith, greatest-cons (f x) (map f xs), zeros x, greatest-map_zero f xs zeros)

own_priority-none : (S : State) → IsNoneOnly S → (t : ℕ) → own_priority S t ≡ base_of S t
own_priority-none S none t = grind (arith, greatest-map_zero, greatest-cons)

pub none_law : NoneLaw
none_law S t none = le_antisymm high (low (nth S.base t) refl)
  where
    reaches : ℕ → Bool
    reaches u = contains (inherit_chain S u) t

    itself : (u : ℕ) → reaches u ≡ true → t ≡ u
    itself u h = go (or_cases (eqb t u) false (sym (ap (λ us. contains us t) (alone S none (length S.base) u)) ∙ h))
      where
        go : (eqb t u ≡ true) ⊎ (false ≡ true) → t ≡ u
        go (inl same) = eqb-true t u same
        go (inr e) = cc

    high : effective_priority S t ≤ base_of S t
    high =
        greatest_of-le (own_priority S) reaches (length S.base) (base_of S t)
        (λ u least most h. let same : base_of S t ≡ base_of S u = ap (base_of S) (itself u h) in omega (arith, own_priority-none S none u, same))

    low : (o : Option ℕ) → nth S.base t ≡ o → base_of S t ≤ effective_priority S t
    low None e = let zero : base_of S t ≡ 0 = ap (λ o. unwrap_or o 0) e in omega (arith, zero)
    low (Some b) e =
        let known = nth_within S.base t b e in
        let on : reaches t ≡ true = ap (λ us. contains us t) (alone S none (length S.base) t) ∙ or_left _ _ (eq-eqb t t refl) in
        omega (arith, own_priority-none S none t, le-greatest_of (own_priority S) reaches (length S.base) t known.0 known.1 on)
