-- What an effective priority is the greatest of.
use Rattle.std.proofs.Common.{◌≡◌, inl, inr, ℕ, zero, suc, ◌≤◌, Bool, true, [], ◌∷◌, map, length, Option, Some, None, refl, ◌∙◌, ap, subst, arith, option_and_then, le_antisymm}
use Rattle.std.proofs.lemmas.Option.{same_Some}
use Rattle.pim_base.specs.Lists.{contains, holds, greatest}
use Rattle.pim_base.specs.State.{State, IsState, base_of, owner_of, wait_of, owned, IsMutex}
use Rattle.pim_base.specs.Chains.{heir, inherit_chain}
use Rattle.pim_base.specs.Priorities.{ceiling_of, own_priority, effective_priority}
use Rattle.pim_base.specs.Laws.{EffectiveLaw, RisingLaw, BaseLaw}
use Rattle.pim_base.specs.declared.steps.Wait.{Wait}
use Rattle.pim_base.proofs.Hops.{hops, Reaches, reaches_from_contains, contains-chain_here}
use Rattle.pim_base.proofs.Places.{nth_within}
use Rattle.pim_base.proofs.Greatest.{greatest_of, IsReached, greatest_of_reached, le-greatest_of}
use Rattle.pim_base.proofs.Stored.{heir-blocker, last_hop, holds_from, own_priority-le-effective_priority, effective_priority-le, rises, stored_law}

-- if one task counts, a task that counts reaches the greatest
reached_from_one :
    (f : ℕ → ℕ) (p : ℕ → Bool) (n t : ℕ)
    → 1 ≤ t
    → t ≤ n
    → p t ≡ true
    → IsReached f p n (greatest_of f p n)
reached_from_one f p n t low high passes = elim (greatest_of_reached f p n) [
  | inl none ↦
      let bound : f t ≤ greatest_of f p n = le-greatest_of f p n t low high passes in
      (t, low, high, passes, omega (arith, none, bound))
  | inr r ↦ r
]

pub effective_law : EffectiveLaw
effective_law S t task = record {
  itself = own_priority-le-effective_priority S t t 0 task (omega arith) refl;
  others = λ u task_u on. le-greatest_of (own_priority S) (λ v. contains (inherit_chain S v) t) (length S.base) u task_u.0 task_u.1 on;
  reached =
      let here : contains (inherit_chain S t) t ≡ true = contains-chain_here (heir S) (length S.base) t t refl in
      let r = reached_from_one (own_priority S) (λ v. contains (inherit_chain S v) t) (length S.base) t task.0 task.1 here in
      (r.0, (r.1, r.2), r.3, r.4);
}

pub rising_law : RisingLaw
rising_law S u t ok task_u task_t on =
    let r : Reaches (heir S) (length S.base) u t = reaches_from_contains (heir S) (length S.base) u t on in
    rises S (effective_priority S) ok ((stored_law S (effective_priority S) ok).1 (λ v task. refl)) r.0 u t task_u task_t r.2

-- a mutex that has an owner is known
pub known_from_owner : (S : State) (m t : ℕ) → IsState S → owner_of S m ≡ Some t → IsMutex S m
known_from_owner S m t valid owner = grind (arith, nth_within)

-- who owns a mutex owns one of those with a number
owned_not_empty : (S : State) (t m : ℕ) → IsState S → owner_of S m ≡ Some t → owned S t ≡ [] → ⊥
owned_not_empty S t m valid owner none =
    let known : IsMutex S m = known_from_owner S m t valid owner in
    let counted : 1 ≤ greatest (map one (owned S t)) =
    le-greatest_of one (λ k. holds (owner_of S k) t) (length S.protocol) m known.0 known.1 (holds_from (owner_of S m) t owner) in
    let none_counted : 1 ≤ greatest [] = subst (λ ms. 1 ≤ greatest (map one ms)) none counted in
    absurd (omega (arith, none_counted))
  where
    one : ℕ → ℕ
    one k = 1

pub base_law : BaseLaw
base_law S t valid task none = le_antisymm high low ∙ own
  where
    own : own_priority S t ≡ base_of S t
    own = ap (λ ms. greatest (base_of S t ∷ map (ceiling_of S) ms)) none ∙ omega arith

    nobody_waits : (v : ℕ) (w : Option Wait) → wait_of S v ≡ w → option_and_then (λ (w : Wait). owner_of S w.mutex) w ≡ Some t → ⊥
    nobody_waits v None e h = cc
    nobody_waits v (Some w) e h = owned_not_empty S t w.mutex valid h none

    reach : (k u : ℕ) → hops (heir S) k u ≡ Some t → own_priority S u ≤ own_priority S t
    reach zero u e = let same : own_priority S u ≡ own_priority S t = ap (own_priority S) (same_Some u t e) in omega (arith, same)
    reach (suc k) u e =
        let l = last_hop (heir S) k u t e in
        absurd (nobody_waits l.0 (wait_of S l.0) refl (heir-blocker S l.0 t l.2))

    high : effective_priority S t ≤ own_priority S t
    high = effective_priority-le S t (own_priority S t) (λ u k task_u le e. reach k u e)

    low : own_priority S t ≤ effective_priority S t
    low = own_priority-le-effective_priority S t t 0 task (omega arith) refl
