-- The local priority, and what holds of it after one task's priority is restored.
use Rattle.std.proofs.Common.{◌≡◌, ℕ, ◌+◌, ◌≤◌, max, Bool, true, cond, inl, inr, sym, ◌∙◌, ap, subst, arith, le_antisymm, Option, Some, None, length}
use Rattle.std.proofs.lemmas.Bool.{both_ways, cases_eq, cases_Bool}
use Rattle.std.proofs.lemmas.Bool.Decides.{nat_tests}
use Rattle.std.proofs.lemmas.Option.{option_and_then_some, same_Some}
use Rattle.pim_base.specs.Lists.{holds}
use Rattle.pim_base.specs.State.{State, IsTask, wait_of}
use Rattle.pim_base.specs.Chains.{heir, heir_of}
use Rattle.pim_base.specs.Priorities.{local_priority}
use Rattle.pim_base.specs.Laws.{IsSound}
use Rattle.pim_base.specs.declared.steps.Wait.{Wait}
use Rattle.pim_base.proofs.Hops.{hops_front}
use Rattle.pim_base.proofs.Greatest.{greatest_of, greatest_of-pass, greatest_of-fail, greatest_of-le, le-greatest_of}
use Rattle.pim_base.proofs.Stored.{none_inherits_back, own_priority-le-local_priority, stored-le-local_priority, local_priority-le, holds_from, from_holds}
use Rattle.pim_chain.specs.Views.{waits_for}
use Rattle.pim_chain.specs.Settled.{SettledBut}

-- one number more
pub greatest_of-more : (f : ℕ → ℕ) (p : ℕ → Bool) (n m : ℕ) → m + 1 ≡ n → greatest_of f p n ≡ max (greatest_of f p m) (cond (p n) (f n) 0)
greatest_of-more f p n m e = grind (arith, greatest_of-pass f p n m, greatest_of-fail f p n m)

pub local_priority-same :
    (S : State) (f g : ℕ → ℕ) (t : ℕ)
    → ((u : ℕ) → IsTask S u → heir S u ≡ Some t → f u ≡ g u)
    → local_priority S f t ≡ local_priority S g t
local_priority-same S f g t same =
    le_antisymm
    (local_priority-le S f t (local_priority S g t) (own_priority-le-local_priority S g t)
    (λ u task e. subst (λ x. x ≤ local_priority S g t) (sym (same u task e)) (stored-le-local_priority S g u t task e)))
    (local_priority-le S g t (local_priority S f t) (own_priority-le-local_priority S f t)
    (λ u task e. subst (λ x. x ≤ local_priority S f t) (same u task e) (stored-le-local_priority S f u t task e)))

pub no_self_heir : (S : State) → IsSound S → (x : ℕ) → IsTask S x → heir S x ≡ Some x → ⊥
no_self_heir S ok x task e = none_inherits_back S ok x 0 (omega (arith, task.0, task.1)) (hops_front (heir S) 0 x x e)

-- x gets its local priority, and no other task's priority changes
pub record Mends (S : State) (f g : ℕ → ℕ) (x : ℕ) : Type 0 where
  pub mended : g x ≡ local_priority S f x
  pub others : (u : ℕ) → (u ≡ x → ⊥) → g u ≡ f u

pub mended_onward :
    (S : State) (f g : ℕ → ℕ) (x : ℕ)
    → IsSound S
    → IsTask S x
    → SettledBut S f (Some x)
    → Mends S f g x
    → SettledBut S g (heir S x)
mended_onward S f g x ok known settled mends t task away =
    let kept = local_priority-same S f g t (λ u _ e. sym (mends.others u (λ same. away (rw same at e)))) in
    grind (arith, cases_eq t x, mends.mended, mends.others t, settled t task, kept)

-- ---- by mutexes
pub heir_at : (S : State) (m u : ℕ) → waits_for (wait_of S) m u ≡ true → heir S u ≡ heir_of S m
heir_at S m u h = grind (arith, nat_tests)

pub waits_for_from : (wait : ℕ → Option Wait) (u : ℕ) (w : Wait) → wait u ≡ Some w → waits_for wait w.mutex u ≡ true
waits_for_from wait u w e = grind (arith, nat_tests)

-- the wait through which u's priority goes to t
pub record Through (S : State) (u t : ℕ) : Type 0 where
  pub wait : Wait
  pub waits : wait_of S u ≡ Some wait
  pub heir : heir_of S wait.mutex ≡ Some t

pub through : (S : State) (u t : ℕ) → heir S u ≡ Some t → Through S u t
through S u t e = option_and_then_some _ (wait_of S u) t e (λ w at leads. record { wait = w; waits = at; heir = leads })

-- the greatest stored priority of the mutex's waiters
abbrev pub top : State → (ℕ → ℕ) → ℕ → ℕ
top S stored m = greatest_of stored (waits_for (wait_of S) m) (length S.base)

-- the heir has it
pub top-le-local_priority : (S : State) (f : ℕ → ℕ) (m y : ℕ) → heir_of S m ≡ Some y → top S f m ≤ local_priority S f y
top-le-local_priority S f m y leads =
    greatest_of-le f (waits_for (wait_of S) m) (length S.base) (local_priority S f y)
    (λ u low high h. stored-le-local_priority S f u y (low, high) (heir_at S m u h ∙ leads))

-- if the greatest at the mutex of x stays the same, no task sees a change
local_under :
    (S : State) (f g : ℕ → ℕ) (x y m : ℕ)
    → ((u : ℕ) → (u ≡ x → ⊥) → f u ≡ g u)
    → heir_of S m ≡ Some y
    → IsTask S x
    → waits_for (wait_of S) m x ≡ true
    → top S f m ≡ top S g m
    → local_priority S f y ≤ local_priority S g y
local_under S f g x y m others leads known inside same =
    let among = le-greatest_of f (waits_for (wait_of S) m) (length S.base) x known.0 known.1 inside in
    let best = top-le-local_priority S g m y leads in
    local_priority-le S f y (local_priority S g y) (own_priority-le-local_priority S g y)
    (λ u task e. grind (arith, cases_eq u x, others u, stored-le-local_priority S g u y task e, among, best, same))

pub mended_stop :
    (S : State) (f g : ℕ → ℕ) (x m : ℕ)
    → IsSound S
    → IsTask S x
    → SettledBut S f (Some x)
    → Mends S f g x
    → waits_for (wait_of S) m x ≡ true
    → top S g m ≡ top S f m
    → SettledBut S g None
mended_stop S f g x m ok known settled mends inside same t task _ = elim (cases_Bool (holds (heir S x) t)) [
  | inr away ↦ mended_onward S f g x ok known settled mends t task (λ h. both_ways _ away (holds_from _ t h))
  | inl is ↦
      let heir_t : heir S x ≡ Some t = from_holds _ t is in
      let leads : heir_of S m ≡ Some t = sym (heir_at S m x inside) ∙ heir_t in
      let ne : t ≡ x → ⊥ = λ e. no_self_heir S ok x known (heir_t ∙ ap Some e) in
      mends.others t ne
      ∙ settled t task (λ h. ne (sym (same_Some _ _ h)))
      ∙ le_antisymm
      (local_under S f g x t m (λ u n. sym (mends.others u n)) leads known inside (sym same))
      (local_under S g f x t m mends.others leads known inside same)
]
