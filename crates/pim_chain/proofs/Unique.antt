-- There is one queue alone, and the definitions' queue is it.
use Rattle.std.proofs.Common.{◌≡◌, ℕ, true, false, ◌⊎◌, inl, inr, refl, sym, ◌∙◌, ap, subst, Option, List, [], ◌∷◌}
use Rattle.std.specs.List.{list_any, AllByRecursion}
use Rattle.std.proofs.lemmas.Bool.{both_ways, eqb-true, eq-eqb, or_cases, or_left, or_right}
use Rattle.pim_base.specs.declared.steps.Wait.{Wait}
use Rattle.pim_base.specs.declared.steps.Waiter.{Waiter}
use Rattle.pim_base.specs.Queues.{precedes}
use Rattle.pim_queue.specs.Waiters.{is_of, IsOrdered}
use Rattle.pim_queue.proofs.Order.{found, all_both, before_not}
use Rattle.pim_chain.specs.Views.{Shows}
use Rattle.pim_chain.proofs.Waiting.{same_waiter, others_behind}

-- the waiter is in the list if a waiter of its task is
head_or_behind :
    (wait : ℕ → Option Wait) (stored : ℕ → ℕ) (m : ℕ) (x y : Waiter) (ys : List Waiter)
    → Shows wait stored m x
    → Shows wait stored m y
    → AllByRecursion (λ v. precedes y v ≡ true) ys
    → AllByRecursion (Shows wait stored m) ys
    → list_any (is_of x.task) (y ∷ ys) ≡ true
    → (x ≡ y) ⊎ (precedes y x ≡ true)
head_or_behind wait stored m x y ys px py behind shows h = elim (or_cases _ _ h) [
  | inl e ↦ inl (same_waiter wait stored m x y px py (sym (eqb-true y.task x.task e)))
  | inr r ↦
      let it =
      found (is_of x.task) (λ v. (precedes y v ≡ true) × Shows wait stored m v) ys r
      (all_both (λ v. precedes y v ≡ true) (Shows wait stored m) _ (λ v a b. (a, b)) ys behind shows) in
      inr (subst (λ v. precedes y v ≡ true) (same_waiter wait stored m it.one x it.holds.1 px (eqb-true it.one.task x.task it.passes)) it.holds.0)
]

-- a waiter behind the head isn't of its task
behind_only :
    (x : Waiter) (xs : List Waiter) (t : ℕ)
    → AllByRecursion (λ u. x.task ≡ u.task → ⊥) xs
    → list_any (is_of t) xs ≡ true
    → x.task ≡ t
    → ⊥
behind_only x xs t apart h e =
    let it = found (is_of t) (λ u. x.task ≡ u.task → ⊥) xs h apart in
    it.holds (e ∙ sym (eqb-true it.one.task t it.passes))

pub same_queue :
    (wait : ℕ → Option Wait) (stored : ℕ → ℕ) (m : ℕ) (xs ys : List Waiter)
    → IsOrdered xs → AllByRecursion (Shows wait stored m) xs
    → IsOrdered ys → AllByRecursion (Shows wait stored m) ys
    → ((t : ℕ) → list_any (is_of t) xs ≡ true → list_any (is_of t) ys ≡ true)
    → ((t : ℕ) → list_any (is_of t) ys ≡ true → list_any (is_of t) xs ≡ true)
    → xs ≡ ys
same_queue wait stored m [] [] ox sx oy sy there back = refl
same_queue wait stored m [] (y ∷ ys) ox sx oy sy there back =
    absurd (both_ways false refl (back y.task (or_left _ _ (eq-eqb y.task y.task refl))))
same_queue wait stored m (x ∷ xs) [] ox sx oy sy there back =
    absurd (both_ways false refl (there x.task (or_left _ _ (eq-eqb x.task x.task refl))))
same_queue wait stored m (x ∷ xs) (y ∷ ys) ox sx oy sy there back =
    let same =
    heads (head_or_behind wait stored m x y ys sx.0 sy.0 oy.0 sy.1 (there x.task (or_left _ _ (eq-eqb x.task x.task refl))))
    (head_or_behind wait stored m y x xs sy.0 sx.0 ox.0 sx.1 (back y.task (or_left _ _ (eq-eqb y.task y.task refl)))) in
    let task = ap (λ (v : Waiter). v.task) same in
    let rest =
    same_queue wait stored m xs ys ox.1 sx.1 oy.1 sy.1
    (λ t h. tail ys y t (λ e. behind_only x xs t (others_behind wait stored m x xs ox.0 sx.0 sx.1) h (task ∙ e)) (there t (or_right _ _ h)))
    (λ t h. tail xs x t (λ e. behind_only y ys t (others_behind wait stored m y ys oy.0 sy.0 sy.1) h (sym task ∙ e)) (back t (or_right _ _ h))) in
    cc (same, rest)
  where
    heads : (x ≡ y) ⊎ (precedes y x ≡ true) → (y ≡ x) ⊎ (precedes x y ≡ true) → x ≡ y
    heads (inl e) _ = e
    heads (inr h) (inl e) = sym e
    heads (inr h) (inr k) = absurd (both_ways _ (before_not x y k) h)

    tail : (vs : List Waiter) (v : Waiter) (t : ℕ) → (v.task ≡ t → ⊥) → list_any (is_of t) (v ∷ vs) ≡ true → list_any (is_of t) vs ≡ true
    tail vs v t ne h = elim (or_cases _ _ h) [ inl e ↦ absurd (ne (eqb-true v.task t e)) | inr r ↦ r ]
