-- A change and the walk after it.
use Rattle.std.proofs.Common.{◌≡◌, ◌≤◌, ℕ, ◌∙◌, sym, ap, subst, length, None}
use Rattle.pim_base.specs.State.{State, with_count}
use Rattle.pim_base.specs.Priorities.{effective_priority}
use Rattle.pim_base.specs.Counts.{differing, changed_task_count}
use Rattle.pim_base.specs.Steady.{IsSteady}
use Rattle.pim_chain.specs.Views.{View, Ready, stored_at, stored_in, with_state}
use Rattle.pim_chain.specs.Settled.{SettledBut, changed}
use Rattle.pim_sets.specs.Work.{Work, Tells}
use Rattle.pim_chain.proofs.Walking.{settled_effective, differing_same}
use Rattle.pim_chain.proofs.Told.{tells-refl, tells-same, tells-trans}
use Rattle.pim_manager.specs.Settled.{IsSettled, Worked}

-- a change of a count is no work: no priority depends on it
pub worked_count :
    {v w : View} {S : State} (m k : ℕ)
    → w ≡ with_state v (with_count v.state m k)
    → v.state ≡ S
    → (a : Work)
    → Worked S a w.state a
worked_count {v} {w} {S} m k is shown a =
    subst (λ (T : State). Worked S a T a)
    (sym (ap (λ (y : View). y.state) is ∙ ap (λ (U : State). with_count U m k) shown))
    (tells-refl (length S.base) (effective_priority S) a)

-- what the work records of priorities holds of equal ones
told_alike :
    (n : ℕ) (f f' g g' : ℕ → ℕ) (a b : Work)
    → ((t : ℕ) → 1 ≤ t → t ≤ n → (f t ≡ f' t) × (g t ≡ g' t))
    → Tells n f a g b
    → Tells n f' a g' b
told_alike n f f' g g' a b alike told =
    tells-trans n f' f g' a a b (tells-same n f' f a (λ t low high. (alike t low high).0))
    (tells-trans n f g g' a b b told (tells-same n g g' b (λ t low high. sym (alike t low high).1)))

-- the state that settled tables show is steady
pub steady_shown : {v : View} {S : State} → IsSettled v → v.state ≡ S → IsSteady S
steady_shown settled shown = subst IsSteady shown settled.steady

-- w is the tables of S after one change, x those after the walk
pub record Walked (S : State) (w x : View) (a b : Work) : Type 0 where
  pub settled : IsSettled x
  pub work : Worked S a x.state b
  pub count : changed w x ≡ changed_task_count S x.state

-- the walk after the step f of the state
pub walked_by :
    {v w x : View} {S : State} {a b : Work} (f : State → State)
    → IsSettled v
    → v.state ≡ S
    → (IsSteady S → IsSteady (f S))
    → length (f v.state).base ≡ length v.state.base
    → w.stored ≡ v.stored
    → length w.state.base ≡ length v.state.base
    → x.state ≡ f v.state
    → SettledBut x.state (stored_at x) None
    → Ready x
    → Tells (length w.state.base) (stored_at w) a (stored_at x) b
    → Walked S w x a b
walked_by {v} {w} {x} {S} {a} {b} f before shown steady bases stored w_bases is settled ready told = record {
  settled = record {
    calm = record { ready = ready; settled = settled };
    steady = subst IsSteady (sym (is ∙ ap f shown)) (steady (steady_shown before shown));
  };
  work =
      subst (λ (U : State). Worked U a x.state b) shown
      (told_alike n (stored_at v) (effective_priority v.state) (stored_at x) (effective_priority x.state) a b effective
      (subst (λ k. Tells k (stored_at v) a (stored_at x) b) w_bases
      (subst (λ ss. Tells (length w.state.base) (stored_in ss) a (stored_at x) b) stored told)));
  count =
      ap (λ k. differing k (stored_at w) (stored_at x)) w_bases
      ∙ ap (λ ss. differing n (stored_in ss) (stored_at x)) stored
      ∙ differing_same n (stored_at v) (effective_priority v.state) (stored_at x) (effective_priority x.state) effective
      ∙ ap (λ (U : State). changed_task_count U x.state) shown;
}
  where
    n : ℕ
    n = length v.state.base

    effective :
        (t : ℕ)
        → 1 ≤ t
        → t ≤ n
        → (stored_at v t ≡ effective_priority v.state t) × (stored_at x t ≡ effective_priority x.state t)
    effective t low high = (
      settled_effective v.state (stored_at v) before.calm.ready.sound before.calm.settled t (low, high),
      settled_effective x.state (stored_at x) ready.sound settled t
          (low, subst (λ k. t ≤ k) (sym (ap (λ (U : State). length U.base) is ∙ bases)) high),
    )
