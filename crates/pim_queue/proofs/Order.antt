use Rattle.std.proofs.lemmas.Grind.{common_steps}
use Rattle.std.proofs.Common.{◌≡◌, ℕ, zero, suc, ◌≤◌, Bool, true, false, cond, ◌||◌, refl, ◌∙◌, ap, subst, Some, None, List, [], ◌∷◌, take, drop, rules, arith}
use Rattle.std.specs.List.{list_any, find, AllByRecursion}
use Rattle.std.proofs.lemmas.Bool.{both_ways, eqb-true, or_left, cond_both}
use Rattle.std.proofs.lemmas.Option.{none-some, same_Some}
use Rattle.pim_base.specs.declared.steps.Waiter.{Waiter}
use Rattle.pim_base.specs.Lists.{insert_by}
use Rattle.pim_base.specs.Queues.{precedes}
use Rattle.pim_queue.specs.Waiters.{is_of, without, IsOrdered}

-- ---- facts of each element of a list
pub all_both :
    {X : Type 0} (P Q R : X → Type 0)
    → ((x : X) → P x → Q x → R x)
    → (xs : List X)
    → AllByRecursion P xs
    → AllByRecursion Q xs
    → AllByRecursion R xs
all_both P Q R f [] h k = tt
all_both P Q R f (x ∷ xs) h k = (f x h.0 k.0, all_both P Q R f xs h.1 k.1)

pub all_each :
    {X : Type 0} (P R : X → Type 0)
    → ((x : X) → P x → R x)
    → (xs : List X)
    → AllByRecursion P xs
    → AllByRecursion R xs
all_each P R f xs h = all_both P P R (λ x p _. f x p) xs h h

-- the first that passes, with what holds of it
pub record Found {X : Type 0} (p : X → Bool) (P : X → Type 0) (xs : List X) : Type 0 where
  pub one : X
  pub is : find p xs ≡ Some one
  pub passes : p one ≡ true
  pub holds : P one

pub found :
    {X : Type 0} (p : X → Bool) (P : X → Type 0)
    → (xs : List X)
    → list_any p xs ≡ true
    → AllByRecursion P xs
    → Found p P xs
found p P [] h k = absurd (both_ways false refl h)
found p P (x ∷ xs) h k = go (p x) refl (λ there. found p P xs there k.1) h
  where
    go : (b : Bool) → p x ≡ b → (list_any p xs ≡ true → Found p P xs) → (b || list_any p xs) ≡ true → Found p P (x ∷ xs)
    go true here rest e =
        record { one = x; is = ap (λ b. cond b (Some x) (find p xs)) here; passes = here; holds = k.0 }
    go false away rest e =
        let it = rest e in
        let is = ap (λ b. cond b (Some x) (find p xs)) away ∙ it.is in
        record { one = it.one; is = is; passes = it.passes; holds = it.holds }

-- if nothing is found, nothing passes
pub none_found : {X : Type 0} (p : X → Bool) → (xs : List X) → find p xs ≡ None → list_any p xs ≡ false
none_found p [] h = refl
none_found p (x ∷ xs) h = grind (arith, none_found p xs)

-- what is found has what all have
pub found_holds :
    {X : Type 0} (p : X → Bool) (P : X → Type 0)
    → (xs : List X) (x : X)
    → find p xs ≡ Some x
    → AllByRecursion P xs
    → P x
found_holds p P [] x h all = absurd (none-some x h)
found_holds p P (y ∷ ys) x h all = go (p y) (found_holds p P ys x) h
  where
    go : (b : Bool) → (find p ys ≡ Some x → AllByRecursion P ys → P x) → cond b (Some y) (find p ys) ≡ Some x → P x
    go true rest is = subst P (same_Some y x is) all.0
    go false rest is = rest is all.1

-- ---- the order
pub before_prio : (a b : Waiter) → precedes a b ≡ true → b.prio ≤ a.prio
before_prio a b h = search rules

pub before_trans : (a b c : Waiter) → precedes a b ≡ true → precedes b c ≡ true → precedes a c ≡ true
before_trans a b c h k = search rules

pub before_not : (a b : Waiter) → precedes a b ≡ true → precedes b a ≡ false
before_not a b h = search rules

pub before_itself : (w : Waiter) → precedes w w ≡ false
before_itself w = search rules

pub before_else : (a b : Waiter) → (b.ticket ≡ a.ticket → ⊥) → precedes a b ≡ false → precedes b a ≡ true
before_else a b apart h = search rules

-- ---- a part of an ordered list
all_take : {X : Type 0} (P : X → Type 0) (n : ℕ) (xs : List X) → AllByRecursion P xs → AllByRecursion P (take n xs)
all_take P n xs h = grind (arith, common_steps)

pub ordered_take : (n : ℕ) (ws : List Waiter) → IsOrdered ws → IsOrdered (take n ws)
ordered_take zero ws h = tt
ordered_take (suc n) [] h = tt
ordered_take (suc n) (w ∷ ws) h = (all_take _ n ws h.0, ordered_take n ws h.1)

pub ordered_drop : (n : ℕ) (ws : List Waiter) → IsOrdered ws → IsOrdered (drop n ws)
ordered_drop zero ws h = h
ordered_drop (suc n) [] h = tt
ordered_drop (suc n) (w ∷ ws) h = ordered_drop n ws h.1

-- ---- one taken out
pub all_without :
    (P : Waiter → Type 0) (task : ℕ) (ws : List Waiter)
    → AllByRecursion P ws
    → AllByRecursion P (without task ws)
all_without P task [] h = tt
all_without P task (v ∷ vs) h =
    cond_both (is_of task v) vs (v ∷ without task vs) (AllByRecursion P)
    (λ _. h.1)
    (λ _. (h.0, all_without P task vs h.1))

pub ordered_without : (task : ℕ) (ws : List Waiter) → IsOrdered ws → IsOrdered (without task ws)
ordered_without task [] h = tt
ordered_without task (v ∷ vs) h =
    cond_both (is_of task v) vs (v ∷ without task vs) IsOrdered
    (λ _. h.1)
    (λ _. (all_without _ task vs h.0, ordered_without task vs h.1))

pub any_without :
    (task u : ℕ) (ws : List Waiter)
    → (u ≡ task → ⊥)
    → list_any (is_of u) ws ≡ true
    → list_any (is_of u) (without task ws) ≡ true
any_without task u [] ne h = h
any_without task u (v ∷ vs) ne h = grind (arith, eqb-true, any_without task u vs ne)

-- ---- one put in
pub all_place :
    (P : Waiter → Type 0) (w : Waiter) (ws : List Waiter)
    → P w
    → AllByRecursion P ws
    → AllByRecursion P (insert_by precedes ws w)
all_place P w [] p h = (p, tt)
all_place P w (v ∷ vs) p h =
    cond_both (precedes w v) (w ∷ v ∷ vs) (v ∷ insert_by precedes vs w) (AllByRecursion P) (λ _. (p, (h.0, h.1)))
    (λ _. (h.0, all_place P w vs p h.1))

pub ordered_place :
    (w : Waiter) (ws : List Waiter)
    → IsOrdered ws
    → AllByRecursion (λ v. v.ticket ≡ w.ticket → ⊥) ws
    → IsOrdered (insert_by precedes ws w)
ordered_place w [] h apart = (tt, tt)
ordered_place w (v ∷ vs) h apart =
    cond_both (precedes w v) (w ∷ v ∷ vs) (v ∷ insert_by precedes vs w) IsOrdered
    (λ first. ((first, all_each _ _ (λ u k. before_trans w v u first k) vs h.0), h))
    (λ later. (all_place _ w vs (before_else w v apart.0 later) h.0, ordered_place w vs h.1 apart.1))

pub any_place_new :
    (p : Waiter → Bool) (w : Waiter) (ws : List Waiter)
    → p w ≡ true
    → list_any p (insert_by precedes ws w) ≡ true
any_place_new p w [] h = or_left _ _ h
any_place_new p w (v ∷ vs) h = grind (arith, any_place_new p w vs h)

pub any_place :
    (p : Waiter → Bool) (w : Waiter) (ws : List Waiter)
    → list_any p ws ≡ true
    → list_any p (insert_by precedes ws w) ≡ true
any_place p w [] h = absurd (both_ways false refl h)
any_place p w (v ∷ vs) h = grind (arith, any_place p w vs)
