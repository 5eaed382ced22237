-- Priorities that agree with their neighbours are the effective ones.
use Rattle.std.proofs.Common.{◌≡◌, ℕ, zero, suc, ◌+◌, ◌≤◌, max, true, length, map, filter, Option, Some, refl, ◌∙◌, ap, arith, le_trans, le_antisymm, rules}
use Rattle.pim_base.specs.Lists.{contains, holds}
use Rattle.pim_base.specs.State.{State, IsTask, task_numbers}
use Rattle.pim_base.specs.Chains.{blocker, heir, heir_in, inherit_chain}
use Rattle.pim_base.specs.Priorities.{own_priority, effective_priority, local_priority}
use Rattle.pim_base.specs.Laws.{IsSound, StoredLaw}
use Rattle.pim_base.specs.declared.steps.Protocol.{Protocol}
use Rattle.pim_base.proofs.Hops.{hops, first_hop, hops_front, hops-add, NoneReturns, OnlyKnownHop, reaches_from_contains, contains_from_reaches, known_on_chain, chain_is_short}
use Rattle.pim_base.proofs.Closing.{none_returns, only_known_hop}
use Rattle.pim_base.proofs.Greatest.{greatest_of, greatest-cons, le-greatest_of, greatest_of-le}

pub heir_in-owner : (p : Protocol) (o : Option ℕ) (y : ℕ) → heir_in p o ≡ Some y → o ≡ Some y
heir_in-owner p o y h = search rules

pub heir-blocker : (S : State) (x y : ℕ) → heir S x ≡ Some y → blocker S x ≡ Some y
heir-blocker S x y e = search rules

heir_hops : (S : State) (k x y : ℕ) → hops (heir S) k x ≡ Some y → hops (blocker S) k x ≡ Some y
heir_hops S zero x y e = e
heir_hops S (suc k) x y e =
    let f = first_hop (heir S) k x y e in
    hops_front (blocker S) k x f.0 (heir-blocker S x f.0 f.1) ∙ heir_hops S k f.0 y f.2

pub none_inherits_back : (S : State) → IsSound S → NoneReturns (heir S) (length S.base)
none_inherits_back S ok t k le e = none_returns S ok.no_cycle t k le (heir_hops S (suc k) t t e)

pub only_known_inherit : (S : State) → IsSound S → OnlyKnownHop (heir S) (length S.base)
only_known_inherit S ok t u e = only_known_hop S ok.lists t u (heir-blocker S t u e)

pub last_hop : (hop : ℕ → Option ℕ) (k x y : ℕ) → hops hop (suc k) x ≡ Some y → (v : ℕ) × (hops hop k x ≡ Some v) × (hop v ≡ Some y)
last_hop hop zero x y e = let f = first_hop hop zero x y e in (x, refl, f.1 ∙ f.2)
last_hop hop (suc k) x y e =
    let f = first_hop hop (suc k) x y e in
    let l = last_hop hop k f.0 y f.2 in
    (l.0, hops_front hop k x f.0 f.1 ∙ l.1, l.2)

pub holds_from : (o : Option ℕ) (t : ℕ) → o ≡ Some t → holds o t ≡ true
holds_from o t e = search rules

pub from_holds : (o : Option ℕ) (t : ℕ) → holds o t ≡ true → o ≡ Some t
from_holds o t e = search rules

-- a task's own priority counts for each task on its chain
pub own_priority-le-effective_priority :
    (S : State) (u t k : ℕ)
    → IsTask S u
    → k ≤ length S.base
    → hops (heir S) k u ≡ Some t
    → own_priority S u ≤ effective_priority S t
own_priority-le-effective_priority S u t k task le e =
    le-greatest_of (own_priority S) (λ v. contains (inherit_chain S v) t) (length S.base) u task.0 task.1
    (contains_from_reaches (heir S) (length S.base) u t k le e)

-- and nothing else does
pub effective_priority-le :
    (S : State) (t b : ℕ)
    → ((u k : ℕ) → IsTask S u → k ≤ length S.base → hops (heir S) k u ≡ Some t → own_priority S u ≤ b)
    → effective_priority S t ≤ b
effective_priority-le S t b h = grind (arith, greatest_of-le, reaches_from_contains)

pub local_is :
    (S : State) (stored : ℕ → ℕ) (t : ℕ)
    → local_priority S stored t ≡ max (own_priority S t) (greatest_of stored (λ u. holds (heir S u) t) (length S.base))
local_is S stored t = greatest-cons (own_priority S t) (map stored (filter (λ u. holds (heir S u) t) (task_numbers S)))

pub own_priority-le-local_priority : (S : State) (stored : ℕ → ℕ) (t : ℕ) → own_priority S t ≤ local_priority S stored t
own_priority-le-local_priority S stored t = omega (arith, local_is S stored t)

pub stored-le-local_priority : (S : State) (stored : ℕ → ℕ) (u t : ℕ) → IsTask S u → heir S u ≡ Some t → stored u ≤ local_priority S stored t
stored-le-local_priority S stored u t task e =
    omega (arith, local_is S stored t, le-greatest_of stored (λ u. holds (heir S u) t) (length S.base) u task.0 task.1 (holds_from (heir S u) t e))

pub local_priority-le :
    (S : State) (stored : ℕ → ℕ) (t b : ℕ)
    → own_priority S t ≤ b
    → ((u : ℕ) → IsTask S u → heir S u ≡ Some t → stored u ≤ b)
    → local_priority S stored t ≤ b
local_priority-le S stored t b low h =
    omega (
      arith,
      low,
      local_is S stored t,
      greatest_of-le stored (λ u. holds (heir S u) t) (length S.base) b (λ u l g e. h u (l, g) (from_holds (heir S u) t e)),
    )

-- Priorities that agree with their neighbours ..
abbrev pub Agree : State → (ℕ → ℕ) → Type 0
Agree S stored = (t : ℕ) → IsTask S t → stored t ≡ local_priority S stored t

-- .. don't fall along a chain
pub rises :
    (S : State) (stored : ℕ → ℕ)
    → IsSound S
    → Agree S stored
    → (k u t : ℕ)
    → IsTask S u
    → IsTask S t
    → hops (heir S) k u ≡ Some t
    → stored u ≤ stored t
rises S stored ok agree zero u t task_u task_t e = search rules
rises S stored ok agree (suc k) u t task_u task_t e =
    let f = first_hop (heir S) k u t e in
    let task_v : IsTask S f.0 =
    known_on_chain (heir S) (length S.base) (only_known_inherit S ok) k f.0 t f.0 f.2 task_t (0, omega arith, refl) in
    let next : stored u ≤ stored f.0 = omega (arith, agree f.0 task_v, stored-le-local_priority S stored u f.0 task_u f.1) in
    le_trans next (rises S stored ok agree k f.0 t task_v task_t f.2)

-- .. and are no higher than what reaches the chain's end
bounded :
    (S : State) (stored : ℕ → ℕ)
    → IsSound S
    → Agree S stored
    → (fuel j v t : ℕ)
    → fuel + j ≡ suc (length S.base)
    → IsTask S v
    → hops (heir S) j v ≡ Some t
    → stored v ≤ effective_priority S t
bounded S stored ok agree zero j v t full task e = absurd (too_long j refl full e)
  where
    n : ℕ
    n = length S.base

    too_long : (i : ℕ) → j ≡ i → 0 + i ≡ suc n → hops (heir S) i v ≡ Some t → ⊥
    too_long zero same full e = omega arith
    too_long (suc i) same full e =
        let l = last_hop (heir S) i v t e in
        let size : i ≡ n = omega arith in
        let short : suc i ≤ n =
        chain_is_short (heir S) n (none_inherits_back S ok) (only_known_inherit S ok) i v l.0 (omega (arith, size)) l.1
        (only_known_inherit S ok l.0 t l.2) in
        omega (arith, short, size)
bounded S stored ok agree (suc fuel) j v t full task e =
    let le : j ≤ length S.base = omega arith in
    let bound : local_priority S stored v ≤ effective_priority S t =
    local_priority-le S stored v (effective_priority S t) (own_priority-le-effective_priority S v t j task le e)
    (λ u task_u h. bounded S stored ok agree fuel (suc j) u t (omega (arith, full)) task_u (hops_front (heir S) j u v h ∙ e)) in
    omega (arith, bound, agree v task)

-- what reaches a task's neighbour reaches the task
pub effective_priority-le_next :
    (S : State)
    → IsSound S
    → (u t : ℕ)
    → IsTask S t
    → heir S u ≡ Some t
    → effective_priority S u ≤ effective_priority S t
effective_priority-le_next S ok u t task h =
    effective_priority-le S u (effective_priority S t)
    (λ w k task_w le e.
    let task_u : IsTask S u = only_known_inherit S ok u t h in
    let short : suc k ≤ length S.base =
    chain_is_short (heir S) (length S.base) (none_inherits_back S ok) (only_known_inherit S ok) k w u le e task_u in
    let on : hops (heir S) (k + 1) w ≡ Some t = hops-add (heir S) k 1 w u e ∙ hops_front (heir S) 0 u t h in
    own_priority-le-effective_priority S w t (k + 1) task_w (omega (arith, short)) on)

pub stored_law : StoredLaw
stored_law S stored ok = (to_eff, from_eff)
  where
    to_eff : Agree S stored → (t : ℕ) → IsTask S t → stored t ≡ effective_priority S t
    to_eff agree t task =
        let high : stored t ≤ effective_priority S t = bounded S stored ok agree (suc (length S.base)) 0 t t (omega arith) task refl in
        let low : effective_priority S t ≤ stored t =
        effective_priority-le S t (stored t)
        (λ u k task_u le e.
        omega (arith, agree u task_u, own_priority-le-local_priority S stored u, rises S stored ok agree k u t task_u task e)) in
        le_antisymm high low

    from_eff : ((t : ℕ) → IsTask S t → stored t ≡ effective_priority S t) → Agree S stored
    from_eff same t task =
        let low : local_priority S stored t ≤ effective_priority S t =
        local_priority-le S stored t (effective_priority S t) (own_priority-le-effective_priority S t t 0 task (omega arith) refl)
        (λ u task_u h. omega (arith, same u task_u, effective_priority-le_next S ok u t task h)) in
        let high : effective_priority S t ≤ local_priority S stored t =
        effective_priority-le S t (local_priority S stored t) (λ w k task_w le e. reach k w task_w le e) in
        same t task ∙ le_antisymm high low
      where
        reach : (k w : ℕ) → IsTask S w → k ≤ length S.base → hops (heir S) k w ≡ Some t → own_priority S w ≤ local_priority S stored t
        reach zero w task_w le e =
            let here : own_priority S w ≡ own_priority S t = ap (own_priority S) (some_parts e) in
            omega (arith, here, own_priority-le-local_priority S stored t)
          where
            some_parts : {x y : ℕ} → Some x ≡ Some y → x ≡ y
            some_parts e = cc
        reach (suc k) w task_w le e =
            let l = last_hop (heir S) k w t e in
            let task_v : IsTask S l.0 = only_known_inherit S ok l.0 t l.2 in
            omega (
              arith,
              same l.0 task_v,
              own_priority-le-effective_priority S w l.0 k task_w (omega arith) l.1,
              stored-le-local_priority S stored l.0 t task_v l.2,
            )
