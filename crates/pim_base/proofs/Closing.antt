-- The law of closing a cycle.
use Rattle.std.proofs.Common.{◌≡◌, ◌≢◌, ◌↔◌, ℕ, zero, suc, ◌+◌, ◌-◌, ◌≤◌, true, false, not, ◌&&◌, ◌⊎◌, inl, inr, drop, length, Option, Some, None, refl, sym, ◌∙◌, ap, subst, arith, option_and_then, unwrap_or, IsTrue, true≢false}
use Rattle.std.specs.Option.{option_map_or}
use Rattle.std.proofs.lemmas.Bool.Decides.{eqb_tells}
use Rattle.pim_base.specs.Lists.{contains}
use Rattle.pim_base.specs.State.{State, IsState, IsTask, owner_of, wait_of, with_wait}
use Rattle.pim_base.specs.Chains.{chain, blocker, waits_chain, HasCycle, leads_back, closes_cycle}
use Rattle.pim_base.specs.Laws.{ClosingLaw}
use Rattle.pim_base.specs.declared.steps.Wait.{Wait}
use Rattle.pim_base.proofs.Hops.{hops, Reaches, reaches_from_contains, contains_from_reaches, first_hop, hops_front, hops-add, hops_rest, NoneReturns, OnlyKnownHop, chain_is_short}
use Rattle.pim_base.proofs.Places.{nth-put_same, nth-put_other, nth_within}

-- `again` hops as `hop` does, but from t
abbrev DiffersAt : (ℕ → Option ℕ) → (ℕ → Option ℕ) → ℕ → Type 0
DiffersAt hop again t = (x : ℕ) → x ≢ t → again x ≡ hop x

some_parts : {x y : ℕ} → Some x ≡ Some y → x ≡ y
some_parts e = cc

-- a way of the other is one of `hop`, or leads through t
follow :
    (hop again : ℕ → Option ℕ) (t : ℕ)
    → DiffersAt hop again t
    → (k x y : ℕ)
    → hops again k x ≡ Some y
    → (hops hop k x ≡ Some y) ⊎ Reaches hop k x t
follow hop again t differs zero x y e = inl e
follow hop again t differs (suc k) x y e =
    let f = first_hop again k x y e in
    elim (eqb_tells x t) [
      | inl same ↦ inr (0, omega arith, ap Some same.1)
      | inr other ↦
          let front : hop x ≡ Some f.0 = sym (differs x other.1) ∙ f.1 in
          elim (follow hop again t differs k f.0 y f.2) [
            | inl rest ↦ inl (hops_front hop k x f.0 front ∙ rest)
            | inr r ↦ inr (suc r.0, omega (arith, r.1), hops_front hop r.0 x f.0 front ∙ r.2)
          ]
    ]

-- a path of `hop` to t, where it stops, is a path of the other
unchanged :
    (hop again : ℕ → Option ℕ) (t : ℕ)
    → DiffersAt hop again t
    → hop t ≡ None
    → (k x : ℕ)
    → hops hop k x ≡ Some t
    → hops again k x ≡ Some t
unchanged hop again t differs stays zero x e = e
unchanged hop again t differs stays (suc k) x e =
    let f = first_hop hop k x t e in
    let other : x ≢ t = λ same. none-some_at (sym stays ∙ ap hop (sym same) ∙ f.1) in
    hops_front again k x f.0 (differs x other ∙ f.1) ∙ unchanged hop again t differs stays k f.0 f.2
  where
    none-some_at : {v : ℕ} → None ≡ Some v → ⊥
    none-some_at e = cc

-- some task returns to itself by 1 to n hops
abbrev Returns : (ℕ → Option ℕ) → ℕ → Type 0
Returns hop n = (v k : ℕ) × (suc k ≤ n) × (hops hop (suc k) v ≡ Some v)

returns_from_reaches :
    (hop again : ℕ → Option ℕ) (n t u : ℕ)
    → NoneReturns hop n
    → OnlyKnownHop hop n
    → (1 ≤ t) × (t ≤ n)
    → DiffersAt hop again t
    → hop t ≡ None
    → again t ≡ Some u
    → Reaches hop n u t
    → Returns again n
returns_from_reaches hop again n t u acyclic known in_range differs stays closes r = (
  t,
  r.0,
  chain_is_short hop n acyclic known r.0 u t r.1 r.2 in_range,
  hops_front again r.0 t u closes ∙ unchanged hop again t differs stays r.0 u r.2,
)

reaches_from_returns :
    (hop again : ℕ → Option ℕ) (n t u : ℕ)
    → NoneReturns hop n
    → DiffersAt hop again t
    → hop t ≡ None
    → again t ≡ Some u
    → Returns again n
    → Reaches hop n u t
reaches_from_returns hop again n t u acyclic differs stays closes (v, j, le, e) =
    elim (follow hop again t differs (suc j) v v e) [
      | inl h ↦ absurd (acyclic v j le h)
      | inr r ↦ round_from r.0 r.1 (unchanged hop again t differs stays r.0 v r.2)
    ]
  where
    from_round : hops again (suc j) t ≡ Some t → Reaches hop n u t
    from_round round =
        let f = first_hop again j t t round in
        let same : u ≡ f.0 = some_parts (sym closes ∙ f.1) in
        let rest : hops again j u ≡ Some t = ap (hops again j) same ∙ f.2 in
        elim (follow hop again t differs j u t rest) [
          | inl h ↦ (j, omega (arith, le), h)
          | inr r ↦ (r.0, omega (arith, le, r.1), r.2)
        ]

    round_from : (i : ℕ) → i ≤ suc j → hops again i v ≡ Some t → Reaches hop n u t
    round_from i small to =
        let on : hops again (suc j - i) t ≡ Some v = hops_rest again i (suc j) v t small to ∙ e in
        let whole : (suc j - i) + i ≡ suc j = omega arith in
        from_round (ap (λ k. hops again k t) (sym whole) ∙ hops-add again (suc j - i) i t v on ∙ to)

-- a task on its own chain, after the first place
cycle_from_returns : (hop : ℕ → Option ℕ) (n t k : ℕ) → suc k ≤ n → hops hop (suc k) t ≡ Some t → contains (drop 1 (chain hop n t)) t ≡ true
cycle_from_returns hop n t k le e = grind (arith, contains_from_reaches)

pub returns_from_cycle :
    (hop : ℕ → Option ℕ) (n t : ℕ)
    → contains (drop 1 (chain hop n t)) t ≡ true
    → (k : ℕ) × (suc k ≤ n) × (hops hop (suc k) t ≡ Some t)
returns_from_cycle hop n t h = grind (arith, reaches_from_contains)

pub none_returns : (S : State) → ¬ HasCycle S → NoneReturns (blocker S) (length S.base)
none_returns S acyclic t k le e = acyclic (t, cycle_from_returns (blocker S) (length S.base) t k le e)

-- only a task with an entry hops
pub only_known_hop : (S : State) → IsState S → OnlyKnownHop (blocker S) (length S.base)
only_known_hop S valid t u e = grind (arith, nth_within)

-- the blocker of a task with such an entry among the waits
abbrev blocked_by : State → Option (Option Wait) → Option ℕ
blocked_by S o = option_and_then (λ (w : Wait). owner_of S w.mutex) (unwrap_or o None)

pub blocker_other : (S : State) (t : ℕ) (w : Option Wait) → DiffersAt (blocker S) (blocker (with_wait S t w)) t
blocker_other S t w x other = ap (blocked_by S) (nth-put_other S.wait t x w (λ e. other (sym e)))

pub blocker_same : (S : State) (t : ℕ) (w : Option Wait) → IsState S → IsTask S t → blocker (with_wait S t w) t ≡ blocked_by S (Some w)
blocker_same S t w valid task = ap (blocked_by S) (nth-put_same S.wait t w task.0 (omega (arith, task.1, valid.waits)))

-- a wait for a free mutex makes no cycle
no_cycle_for_free :
    (S : State) (t : ℕ) (w : Wait)
    → IsState S
    → ¬ HasCycle S
    → IsTask S t
    → blocker S t ≡ None
    → owner_of S w.mutex ≡ None
    → ¬ HasCycle (with_wait S t (Some w))
no_cycle_for_free S t w valid acyclic task stays free (v, h) = grind (arith, blocker_same, blocker_other)

-- a wait for a mutex with an owner makes one exactly if the owner's chain leads back
cycle_for_owned :
    (S : State) (t u : ℕ) (w : Wait)
    → IsState S
    → ¬ HasCycle S
    → IsTask S t
    → blocker S t ≡ None
    → owner_of S w.mutex ≡ Some u
    → IsTrue (contains (waits_chain S u) t) ↔ HasCycle (with_wait S t (Some w))
cycle_for_owned S t u w valid acyclic task stays owned = (there, back)
  where
    n : ℕ
    n = length S.base

    again : ℕ → Option ℕ
    again = blocker (with_wait S t (Some w))

    at_t : again t ≡ Some u
    at_t = blocker_same S t (Some w) valid task ∙ owned

    there : IsTrue (contains (waits_chain S u) t) → HasCycle (with_wait S t (Some w))
    there h =
        let r = returns_from_reaches (blocker S) again n t u (none_returns S acyclic) (only_known_hop S valid) task
        (blocker_other S t (Some w)) stays at_t (reaches_from_contains (blocker S) n u t h) in
        (r.0, cycle_from_returns again n r.0 r.1 r.2 r.3)

    back : HasCycle (with_wait S t (Some w)) → IsTrue (contains (waits_chain S u) t)
    back (v, h) =
        let r = returns_from_cycle again n v h in
        let b = reaches_from_returns (blocker S) again n t u (none_returns S acyclic)
        (blocker_other S t (Some w)) stays at_t (v, r.0, r.1, r.2) in
        contains_from_reaches (blocker S) n u t b.0 b.1 b.2

-- without a cycle before, a wait makes one exactly if it leads back
pub leads_back-cycle :
    (S : State) (t m ticket : ℕ)
    → IsState S
    → ¬ HasCycle S
    → IsTask S t
    → wait_of S t ≡ None
    → IsTrue (leads_back S t m) ↔ HasCycle (with_wait S t (Some (record { mutex = m; ticket = ticket })))
leads_back-cycle S t m ticket valid acyclic task idle = go (owner_of S m) refl
  where
    w : Wait
    w = record { mutex = m; ticket = ticket }

    stays : blocker S t ≡ None
    stays = ap (option_and_then (λ (w : Wait). owner_of S w.mutex)) idle

    go :
        (o : Option ℕ)
        → owner_of S m ≡ o
        → IsTrue (option_map_or (λ u. contains (waits_chain S u) t) o false) ↔ HasCycle (with_wait S t (Some w))
    go None free = (
      (λ h. absurd (true≢false (sym h))),
      (λ h. absurd (no_cycle_for_free S t w valid acyclic task stays free h)),
    )
    go (Some u) owned = cycle_for_owned S t u w valid acyclic task stays owned

pub closing_law : ClosingLaw
closing_law S t m ticket valid acyclic task idle once =
    let cycle : Type 0 = HasCycle (with_wait S t (Some (record { mutex = m; ticket = ticket }))) in
    let asks : leads_back S t m ≡ closes_cycle S t m = ap (λ again. not again && leads_back S t m) (sym once) in
    subst (λ b. IsTrue b ↔ cycle) asks (leads_back-cycle S t m ticket valid acyclic task idle)
