-- A walk from a thread along its waits, until it is back or has made as many hops as there are
-- threads.
use Rattle.std.proofs.Common.{◌≡◌, ℕ, zero, suc, ◌+◌, ◌-◌, ◌<◌, ◌≤◌, List, [], ◌∷◌, ◌++◌, map, refl}
use Rattle.std.proofs.Common.{sym, ap, ◌∙◌, arith, append_assoc, append-nil}
use Rattle.std.specs.Option.{option_map_or}
use Rattle.std.specs.Prelude.{true, false, ◌==◌, Option, Some, None, drop}
use Rattle.std.proofs.lemmas.Bool.Decides.{nat_tests}
use Rattle.pim_base.specs.Chains.{chain}
use Rattle.pim_base.specs.Lists.{contains}
use Rattle.pim_rows.specs.Rows.{before}

-- the threads of at most n hops from here on
abbrev pub hops : (ℕ → Option ℕ) → ℕ → Option ℕ → List ℕ
hops hop zero next = []
hops hop (suc n) None = []
hops hop (suc n) (Some u) = u ∷ hops hop n (hop u)

chain-hops : (hop : ℕ → Option ℕ) (n t : ℕ) → chain hop n t ≡ t ∷ hops hop n (hop t)
chain-hops hop zero t = refl
chain-hops hop (suc n) t = go (hop t) (chain-hops hop n)
  where
    go :
        (o : Option ℕ)
        → ((u : ℕ) → chain hop n u ≡ u ∷ hops hop n (hop u))
        → t ∷ option_map_or (chain hop n) o [] ≡ t ∷ hops hop (suc n) o
    go None rest = refl
    go (Some u) rest = ap (λ us. t ∷ us) (rest u)

-- the threads after t
pub drop-chain : (hop : ℕ → Option ℕ) (n t : ℕ) → drop 1 (chain hop n t) ≡ hops hop n (hop t)
drop-chain hop n t = ap (drop 1) (chain-hops hop n t)

hops-none : (hop : ℕ → Option ℕ) (n : ℕ) → hops hop n None ≡ []
hops-none hop zero = refl
hops-none hop (suc n) = refl

hops-some :
    (hop : ℕ → Option ℕ) (n i u : ℕ)
    → i < n
    → hops hop (n - i) (Some u) ≡ u ∷ hops hop (n - (i + 1)) (hop u)
hops-some hop n i u h =
    let e : n - i ≡ suc (n - (i + 1)) = omega arith in ap (λ k. hops hop k (Some u)) e

-- a walk has made i hops, next comes a thread if there is one, and these are the numbers so far
pub record Walks (hop : ℕ → Option ℕ)
    (number : ℕ → ℕ) (t n i : ℕ) (next : Option ℕ) (items : List ℕ) : Type 0 where
  pub found : contains (hops hop (n - i) next) t ≡ contains (hops hop n (hop t)) t
  pub numbers : items ++ map number (before t (hops hop (n - i) next))
      ≡ map number (t ∷ before t (hops hop n (hop t)))

pub walk_start : (hop : ℕ → Option ℕ) (number : ℕ → ℕ) (t n : ℕ) (next : Option ℕ) (items : List ℕ)
    → next ≡ hop t → items ≡ number t ∷ [] → Walks hop number t n 0 next items
walk_start hop number t n next items one first =
    let e : n - 0 ≡ n = omega arith in
    record {
      found =
          ap (λ o. contains (hops hop (n - 0) o) t) one
          ∙ ap (λ k. contains (hops hop k (hop t)) t) e;
      numbers =
          ap (λ o. items ++ map number (before t (hops hop (n - 0) o))) one
          ∙ ap (λ k. items ++ map number (before t (hops hop k (hop t)))) e
          ∙ ap (λ xs. xs ++ map number (before t (hops hop n (hop t)))) first;
    }

-- the next thread isn't t
pub walk_more : (hop : ℕ → Option ℕ)
    (number : ℕ → ℕ) (t n i u : ℕ) (here next : Option ℕ) (items more : List ℕ)
    → i < n → (u ≡ t → ⊥) → here ≡ Some u → next ≡ hop u → more ≡ items ++ number u ∷ []
    → Walks hop number t n i here items → Walks hop number t n (i + 1) next more
walk_more hop number t n i u here next items more h apart is one pushed w =
    let step = ap (hops hop (n - i)) is ∙ hops-some hop n i u h in
    let flipped : (t == u) ≡ false = grind (arith, nat_tests) in
    let other : (u == t) ≡ false = grind (arith, nat_tests) in
    record {
      found =
          ap (λ o. contains (hops hop (n - (i + 1)) o) t) one
          ∙ sym (ap (λ us. contains us t) step ∙ simp flipped)
          ∙ w.found;
      numbers =
          ap (λ o. more ++ map number (before t (hops hop (n - (i + 1)) o))) one
          ∙ ap (λ xs. xs ++ map number (before t (hops hop (n - (i + 1)) (hop u)))) pushed
          ∙ append_assoc items (number u ∷ []) _
          ∙ sym (ap (λ us. items ++ map number (before t us)) step ∙ simp other)
          ∙ w.numbers;
    }

-- no thread comes next
pub walk_none : (hop : ℕ → Option ℕ)
    (number : ℕ → ℕ) (t n i k : ℕ) (here : Option ℕ) (items : List ℕ)
    → n ≡ k
    → here ≡ None
    → Walks hop number t n i here items
    → false ≡ contains (drop 1 (chain hop k t)) t
walk_none hop number t n i k here items count is w =
    sym (ap (λ us. contains us t) (ap (hops hop (n - i)) is ∙ hops-none hop (n - i)))
    ∙ w.found ∙ sym (ap (λ us. contains us t) (drop-chain hop n t))
    ∙ ap (λ j. contains (drop 1 (chain hop j t)) t) count

-- there were n hops
pub walk_end : (hop : ℕ → Option ℕ)
    (number : ℕ → ℕ) (t n i k : ℕ) (next : Option ℕ) (items : List ℕ)
    → n ≡ k
    → n ≤ i
    → Walks hop number t n i next items
    → false ≡ contains (drop 1 (chain hop k t)) t
walk_end hop number t n i k next items count h w =
    let e : n - i ≡ 0 = omega arith in
    sym (ap (λ j. contains (hops hop j next) t) e)
    ∙ w.found ∙ sym (ap (λ us. contains us t) (drop-chain hop n t))
    ∙ ap (λ j. contains (drop 1 (chain hop j t)) t) count

-- t comes next
pub walk_found : (hop : ℕ → Option ℕ)
    (number : ℕ → ℕ) (t n i u k : ℕ) (here : Option ℕ) (items : List ℕ)
    → n ≡ k → i < n → u ≡ t → here ≡ Some u → Walks hop number t n i here items
    → (true ≡ contains (drop 1 (chain hop k t)) t)
    × (items ≡ map number (t ∷ before t (drop 1 (chain hop k t))))
walk_found hop number t n i u k here items count h same is w =
    let step = ap (hops hop (n - i)) is ∙ hops-some hop n i u h in
    let flipped : (t == u) ≡ true = grind (arith, nat_tests) in
    let back : (u == t) ≡ true = grind (arith, nat_tests) in (
      sym (ap (λ us. contains us t) step ∙ simp flipped)
          ∙ w.found ∙ sym (ap (λ us. contains us t) (drop-chain hop n t))
          ∙ ap (λ j. contains (drop 1 (chain hop j t)) t) count,
      sym (append-nil items)
          ∙ sym (ap (λ us. items ++ map number (before t us)) step ∙ simp back) ∙ w.numbers
          ∙ sym (ap (λ us. map number (t ∷ before t us)) (drop-chain hop n t))
          ∙ ap (λ j. map number (t ∷ before t (drop 1 (chain hop j t)))) count,
    )
