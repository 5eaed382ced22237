-- The first mutex after a place that a thread owns, one owned mutex after another.
use Rattle.std.proofs.Common.{◌≡◌, ℕ, ◌<◌, ◌&&◌, Bool, true, false, List, [], ◌∷◌, min, Option}
use Rattle.std.proofs.Common.{Some, None, refl, sym, subst, ◌∙◌, arith, inl, inr, nat_lt, fold}
use Rattle.std.proofs.Common.{if◌then◌else◌}
use Rattle.std.specs.Option.{option_map_or}
use Rattle.std.proofs.lemmas.Bool.Decides.{leb_tells, nat_tests}
use Rattle.std.proofs.lemmas.Option.{same_Some}
use Rattle.pim_base.specs.Lists.{contains, holds}
use Rattle.pim_base.specs.State.{State, owner_of}
use Rattle.pim_base.proofs.Effective.{known_from_owner}
use Rattle.pim_base.proofs.Stored.{from_holds}
use Rattle.pim_waits.specs.Own.{nearer, IsNextOwned}
use Rattle.pim_waits.specs.Whole.{IsWhole}
use Rattle.pim_waits.proofs.Lists.{contains_cases}

module _ (S : State) (t after : ℕ) where
  abbrev owns : ℕ → Bool
  owns k = holds (owner_of S k) t

  abbrev passes : ℕ → Bool
  passes m = nat_lt after m && owns m

  -- t owns it, and it is after the place
  abbrev IsThere : ℕ → Type 0
  IsThere m = (after < m) × (owns m ≡ true)

  -- k isn't before the next one
  abbrev IsPast : Option ℕ → ℕ → Type 0
  IsPast None k = after < k → owns k ≡ false
  IsPast (Some m) k = after < k → k < m → owns k ≡ false

  abbrev step : Bool → Option ℕ → ℕ → Option ℕ
  step b next m = if b then Some (option_map_or (λ n. min m n) next m) else next

  passed : (m : ℕ) → passes m ≡ true → IsThere m
  passed m h = go (nat_lt after m) (owns m) refl refl h
    where
      go : (a b : Bool) → nat_lt after m ≡ a → owns m ≡ b → (a && b) ≡ true → IsThere m
      go true true e f h = ((grind (arith, nat_tests, e)), f)
      go true false e f h = absurd (cc)
      go false b e f h = absurd (cc)

  failed : (m : ℕ) → passes m ≡ false → after < m → owns m ≡ false
  failed m h low = go (nat_lt after m) refl h
    where
      go : (a : Bool) → nat_lt after m ≡ a → (a && owns m) ≡ false → owns m ≡ false
      go true e h = h
      go false e h = absurd (grind (arith, nat_tests, e, low))

  -- what is the next one so far is there
  there_step :
      (next : Option ℕ) (m : ℕ) (b : Bool)
      → passes m ≡ b
      → ((n : ℕ) → next ≡ Some n → IsThere n)
      → (n : ℕ)
      → step b next m ≡ Some n
      → IsThere n
  there_step next m false h there n e = there n e
  there_step None m true h there n e = subst IsThere (same_Some m n e) (passed m h)
  there_step (Some k) m true h there n e = elim (leb_tells m k) [
    | inl (_, le) ↦ subst IsThere
        (let is : min m k ≡ m = omega (arith, le) in sym is ∙ same_Some (min m k) n e) (passed m h)
    | inr (_, gt) ↦ subst IsThere (let is : min m k ≡ k = omega (arith, gt) in
        sym is ∙ same_Some (min m k) n e) (there k refl)
  ]

  past_step : (next : Option ℕ) (m k : ℕ) (b : Bool) → IsPast next k → IsPast (step b next m) k
  past_step next m k false past = past
  past_step None m k true past = λ low high. past low
  past_step (Some n) m k true past = λ low high. past low (omega (arith, high))

  passed_step : (next : Option ℕ) (m : ℕ) (b : Bool) → passes m ≡ b → IsPast (step b next m) m
  passed_step None m false h = λ low. failed m h low
  passed_step (Some n) m false h = λ low high. failed m h low
  passed_step None m true h = λ low high. absurd (omega (arith, high))
  passed_step (Some n) m true h = λ low high. absurd (omega (arith, high))

  there_fold :
      (xs : List ℕ) (next : Option ℕ)
      → ((n : ℕ) → next ≡ Some n → IsThere n)
      → (n : ℕ)
      → fold (nearer S t after) next xs ≡ Some n
      → IsThere n
  there_fold [] next there = there
  there_fold (x ∷ xs) next there =
      there_fold xs (nearer S t after next x) (there_step next x (passes x) refl there)

  past_fold :
      (xs : List ℕ) (next : Option ℕ) (k : ℕ)
      → IsPast next k
      → IsPast (fold (nearer S t after) next xs) k
  past_fold [] next k past = past
  past_fold (x ∷ xs) next k past =
      past_fold xs (nearer S t after next x) k (past_step next x k (passes x) past)

  listed_fold :
      (xs : List ℕ) (next : Option ℕ) (k : ℕ)
      → contains xs k ≡ true
      → IsPast (fold (nearer S t after) next xs) k
  listed_fold [] next k h = absurd (let e : false ≡ true = h in cc)
  listed_fold (x ∷ xs) next k h = elim (contains_cases x xs k h) [
    | inl here ↦ past_fold xs (nearer S t after next x) k (subst
        (λ j. IsPast (nearer S t after next x) j) (sym here) (passed_step next x (passes x) refl))
    | inr later ↦ listed_fold xs (nearer S t after next x) k later
  ]

  past_other : (next : Option ℕ) (k : ℕ) → owns k ≡ false → IsPast next k
  past_other None k h = λ low. h
  past_other (Some m) k h = λ low high. h

  past_all :
      (xs : List ℕ)
      → ((m : ℕ) → owner_of S m ≡ Some t → contains xs m ≡ true)
      → (k : ℕ)
      → IsPast (fold (nearer S t after) None xs) k
  past_all xs listed k = go (owns k) refl
    where
      go : (b : Bool) → owns k ≡ b → IsPast (fold (nearer S t after) None xs) k
      go true e = listed_fold xs None k (listed k (from_holds (owner_of S k) t e))
      go false e = past_other (fold (nearer S t after) None xs) k e

  pub next_owned_is :
      (xs : List ℕ) → IsWhole S → ((m : ℕ) → owner_of S m ≡ Some t → contains xs m ≡ true)
      → (next : Option ℕ) → next ≡ fold (nearer S t after) None xs → IsNextOwned S t after next
  next_owned_is xs whole listed None e =
      λ k. subst (λ next. IsPast next k) (sym e) (past_all xs listed k)
  next_owned_is xs whole listed (Some m) e =
      let there = there_fold xs None (λ n e. cc) m (sym e) in
      let owner = from_holds (owner_of S m) t there.1 in
      record {
        later = there.0;
        mutex = known_from_owner S m t whole.lists owner;
        owner = owner;
        first = λ k. subst (λ next. IsPast next k) (sym e) (past_all xs listed k);
      }
