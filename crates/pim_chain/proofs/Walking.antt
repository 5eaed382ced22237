-- The walk: its task after a number of visits, and what it has changed.
use Rattle.std.proofs.Common.{◌≡◌, ℕ, zero, suc, ◌+◌, ◌<◌, ◌≤◌, Bool, true, false, not, ◌⊎◌, inl, inr, refl, sym, ◌∙◌, ap, subst, arith, Option, Some, None, eqb, length, add-one, eq-or-lt_of_le}
use Rattle.std.proofs.lemmas.Bool.{cases_eq, eq-eqb, ne_eqb, eqb-true, not-false}
use Rattle.std.proofs.lemmas.Option.{none-some, same_Some}
use Rattle.pim_base.specs.State.{State, IsTask}
use Rattle.pim_base.specs.Chains.{heir}
use Rattle.pim_base.specs.Priorities.{effective_priority}
use Rattle.pim_base.specs.Counts.{count, differing}
use Rattle.pim_base.specs.Laws.{IsSound}
use Rattle.pim_base.proofs.Hops.{hops, hops_front, hops-add, first_hop, chain_is_short}
use Rattle.pim_base.proofs.Stored.{none_inherits_back, only_known_inherit, stored_law, last_hop, heir_in-owner}
use Rattle.pim_chain.proofs.Local.{through}
use Rattle.pim_chain.specs.Views.{View, stored_at, WaitsFit, Ready}
use Rattle.pim_chain.specs.Settled.{SettledBut, Visited, changed}

-- ---- counts
pub count_none : (n : ℕ) (test : ℕ → Bool) → ((u : ℕ) → test u ≡ false) → count n test ≡ 0
unfolding count
count_none zero test h = refl
count_none (suc n) test h = grind (arith, h (suc n), count_none n test h)

pub count_same : (n : ℕ) (p q : ℕ → Bool) → ((u : ℕ) → 1 ≤ u → u ≤ n → p u ≡ q u) → count n p ≡ count n q
unfolding count
count_same zero p q h = refl
count_same (suc n) p q h = cc (h (suc n) (omega arith) (omega arith), count_same n p q (λ u low high. h u low (omega arith)))

pub count_more :
    (n : ℕ) (p q : ℕ → Bool) (x : ℕ)
    → 1 ≤ x
    → x ≤ n
    → p x ≡ false
    → q x ≡ true
    → ((u : ℕ) → (u ≡ x → ⊥) → p u ≡ q u)
    → count n q ≡ count n p + 1
unfolding count
count_more zero p q x low high f t h = absurd (omega arith)
count_more (suc n) p q x low high f t h = elim (eq-or-lt_of_le high) [
  | inl is ↦
      let rest = count_same n p q (λ u low less. h u (λ e. absurd (omega (arith, e, is, less)))) in
      grind (arith, rest, rw is at f, rw is at t)
  | inr lt ↦ grind (arith, h (suc n) (λ e. absurd (omega (arith, e, lt))), count_more n p q x low (omega (arith, lt)) f t h)
]

pub count_either :
    (n : ℕ) (p q r : ℕ → Bool)
    → ((u : ℕ) → 1 ≤ u → u ≤ n → q u ≡ false → r u ≡ false → p u ≡ false)
    → count n p ≤ count n q + count n r
unfolding count
count_either zero p q r h = omega arith
count_either (suc n) p q r h =
    grind (arith, h (suc n) (omega arith) (omega arith), count_either n p q r (λ u low high. h u low (omega (arith, high))))

-- ---- how many priorities differ
same_from : (a b : ℕ) → not (eqb a b) ≡ false → a ≡ b
same_from a b h = eqb-true a b (not-false _ h)

pub differing_over : (n : ℕ) (f g h : ℕ → ℕ) → differing n f h ≤ differing n f g + differing n g h
differing_over n f g h =
    count_either n (λ u. not (eqb (f u) (h u))) (λ u. not (eqb (f u) (g u))) (λ u. not (eqb (g u) (h u)))
    (λ u _ _ a b. ap not (eq-eqb _ _ (same_from _ _ a ∙ same_from _ _ b)))

pub differing_same :
    (n : ℕ) (f f' g g' : ℕ → ℕ)
    → ((u : ℕ) → 1 ≤ u → u ≤ n → (f u ≡ f' u) × (g u ≡ g' u))
    → differing n f g ≡ differing n f' g'
differing_same n f f' g g' h =
    count_same n (λ u. not (eqb (f u) (g u))) (λ u. not (eqb (f' u) (g' u)))
    (λ u low high. let both : (f u ≡ f' u) × (g u ≡ g' u) = h u low high in cc (both.0, both.1))

-- no task's priority differs
pub differing_none : (n : ℕ) (f g : ℕ → ℕ) → ((u : ℕ) → 1 ≤ u → u ≤ n → g u ≡ f u) → differing n f g ≡ 0
differing_none n f g same =
    differing_same n f f g f (λ u low high. (refl, same u low high))
    ∙ count_none n (λ u. not (eqb (f u) (f u))) (λ u. ap not (eq-eqb (f u) (f u) refl))

-- the priority of x alone differs, if any
pub differing_one : (n : ℕ) (f g : ℕ → ℕ) (x : ℕ) → ((u : ℕ) → (u ≡ x → ⊥) → g u ≡ f u) → differing n f g ≤ 1
unfolding count
differing_one zero f g x others = omega arith
differing_one (suc n) f g x others = elim (cases_eq (suc n) x) [
  | inl is ↦ grind (arith, differing_none n f g (λ u low high. others u (λ same. absurd (omega (arith, high, same, is)))))
  | inr ne ↦ grind (arith, differing_one n f g x others, eq-eqb (f (suc n)) (g (suc n)) (sym (others (suc n) ne)))
]

-- ---- hops
hops_last : (hop : ℕ → Option ℕ) (k x c y : ℕ) → hops hop k x ≡ Some c → hop c ≡ Some y → hops hop (k + 1) x ≡ Some y
hops_last hop k x c y e f = hops-add hop k 1 x c e ∙ hops_front hop 0 c y f

-- an heir is known
heir_known : (S : State) → WaitsFit S → (t u : ℕ) → heir S t ≡ Some u → IsTask S u
heir_known S fit t u e = let by = through S t u e in fit.owners by.wait.mutex u (heir_in-owner _ _ u by.heir)

-- all tasks on the chain of a known task are known
known_on : (S : State) → WaitsFit S → (k x c : ℕ) → IsTask S x → hops (heir S) k x ≡ Some c → IsTask S c
known_on S fit zero x c known e = rw (same_Some x c e) at known
known_on S fit (suc k) x c known e =
    let f = first_hop (heir S) k x c e in
    known_on S fit k f.0 c (heir_known S fit x f.0 f.1) f.2

-- no chain from a known task has as many hops as there are tasks
short : (S : State) → IsSound S → WaitsFit S → (k x c : ℕ) → IsTask S x → hops (heir S) k x ≡ Some c → suc k ≤ length S.base
short S ok fit zero x c known e = omega (arith, known.0, known.1)
short S ok fit (suc k) x c known e =
    let l = last_hop (heir S) k x c e in
    chain_is_short (heir S) (length S.base) (none_inherits_back S ok) (only_known_inherit S ok) (suc k) x c
    (short S ok fit k x l.0 known l.1) e (known_on S fit (suc k) x c known e)

-- how many hops lead from t to y
pub record Back (S : State) (t y : ℕ) : Type 0 where
  pub count : ℕ
  pub leads : hops (heir S) (suc count) t ≡ Some y

never_back : (S : State) → IsSound S → WaitsFit S → (c : ℕ) → IsTask S c → Back S c c → ⊥
never_back S ok fit c known back =
    let few : suc (suc back.count) ≤ length S.base = short S ok fit (suc back.count) c c known back.leads in
    none_inherits_back S ok c back.count (omega (arith, few)) back.leads

-- no hop leads from a task without an heir
single_more : (S : State) (k x c : ℕ) → heir S x ≡ None → hops (heir S) k x ≡ Some c → k ≡ 0
single_more S zero x c h e = refl
single_more S (suc k) x c h e = absurd (none-some _ (sym h ∙ (first_hop (heir S) k x c e).1))

-- one more visit than changes is allowed only at the end
abbrev pub slack : Option ℕ → ℕ
slack None = 1
slack (Some u) = 0

-- ---- after k visits, from v to w
pub record Walking (v w : View) (x k : ℕ) (next : Option ℕ) : Type 0 where
  pub state : w.state ≡ v.state
  pub settled : SettledBut w.state (stored_at w) next
  pub place : (c : ℕ) → next ≡ Some c → hops (heir v.state) k x ≡ Some c
  pub least : changed v w ≤ k
  pub most : k ≤ changed v w + slack next
  pub single : heir v.state x ≡ None → k ≤ 1
  pub begun : next ≡ None → 0 < k
  pub back : (c t : ℕ) → next ≡ Some c → (stored_at v t ≡ stored_at w t → ⊥) → Back v.state t c

pub walking_none : (v : View) (x : ℕ) → SettledBut v.state (stored_at v) (Some x) → Walking v v x 0 (Some x)
walking_none v x settled =
    let none = differing_none (length v.state.base) (stored_at v) (stored_at v) (λ _ _ _. refl) in
    record {
      state = refl;
      settled = settled;
      place = λ c e. e;
      least = omega (arith, none);
      most = omega (arith, none);
      single = λ _. omega arith;
      begun = λ e. absurd (none-some x (sym e));
      back = λ c t e differs. absurd (differs refl);
    }

pub walking_few :
    (v w : View) (x k c : ℕ)
    → Ready v
    → IsTask v.state x
    → Walking v w x k (Some c)
    → (suc k ≤ length v.state.base) × IsTask v.state c
walking_few v w x k c ready known walking = (
  short v.state ready.sound ready.waits k x c known (walking.place c refl),
  known_on v.state ready.waits k x c known (walking.place c refl),
)

module _ (v w z : View) (x k c : ℕ) (next : Option ℕ) (ready : Ready v) (known : IsTask v.state x) (walking : Walking v w x k (Some c))
    (visited : Visited w z c next) where
  here : IsTask v.state c
  here = (walking_few v w x k c ready known walking).1

  -- the task had its first priority so far
  fresh : stored_at v c ≡ stored_at w c
  fresh = elim (cases_eq (stored_at v c) (stored_at w c)) [
    | inl e ↦ e
    | inr ne ↦ absurd (never_back v.state ready.sound ready.waits c here (walking.back c c refl ne))
  ]

  next_hop : (y : ℕ) → next ≡ Some y → heir v.state c ≡ Some y
  next_hop y e = rw walking.state at (visited.onward y e).0

  count_if_same : stored_at z c ≡ stored_at w c → changed v z ≡ changed v w
  count_if_same same =
      differing_same (length v.state.base) (stored_at v) (stored_at v) (stored_at z) (stored_at w)
      (λ t _ _. (refl, elim (cases_eq t c) [ inl is ↦ rw is same | inr ne ↦ visited.others t ne ]))

  count_if_other : (stored_at z c ≡ stored_at w c → ⊥) → changed v z ≡ changed v w + 1
  count_if_other other =
      count_more (length v.state.base) (λ t. not (eqb (stored_at v t) (stored_at w t)))
      (λ t. not (eqb (stored_at v t) (stored_at z t))) c here.0 here.1 (ap not (eq-eqb _ _ fresh))
      (ap not (ne_eqb (stored_at v c) (stored_at z c) (λ e. other (sym e ∙ fresh))))
      (λ t ne. ap (λ p. not (eqb (stored_at v t) p)) (sym (visited.others t ne)))

  most_more : k + 1 ≤ changed v z + slack next
  most_more = go next refl (cases_eq (stored_at z c) (stored_at w c))
    where
      go : (o : Option ℕ) → next ≡ o → (stored_at z c ≡ stored_at w c) ⊎ (stored_at z c ≡ stored_at w c → ⊥) → k + 1 ≤ changed v z + slack o
      go o _ (inr ne) = omega (arith, count_if_other ne, walking.most)
      go None _ (inl e) = omega (arith, count_if_same e, walking.most)
      go (Some y) f (inl e) = absurd ((visited.onward y f).1 e)

  back_more : (y t : ℕ) → next ≡ Some y → (stored_at v t ≡ stored_at z t → ⊥) → Back v.state t y
  back_more y t e changes = elim (cases_eq t c) [
    | inl is ↦ record { count = 0; leads = hops_front (heir v.state) 0 t y (rw is (next_hop y e)) }
    | inr ne ↦
        let so_far = walking.back c t refl (λ same. changes (same ∙ sym (visited.others t ne))) in
        record {
          count = suc so_far.count;
          leads = subst (λ j. hops (heir v.state) j t ≡ Some y) (add-one (suc so_far.count))
              (hops_last (heir v.state) (suc so_far.count) t c y so_far.leads (next_hop y e));
        }
  ]

  pub walking_more : Walking v z x (k + 1) next
  walking_more = record {
    state = visited.state ∙ walking.state;
    settled = visited.settled;
    place = λ y e. hops_last (heir v.state) k x c y (walking.place c refl) (next_hop y e);
    least = elim (cases_eq (stored_at z c) (stored_at w c)) [
      | inl e ↦ omega (arith, count_if_same e, walking.least)
      | inr ne ↦ omega (arith, count_if_other ne, walking.least)
    ];
    most = most_more;
    single = λ h. omega (arith, single_more v.state k x c h (walking.place c refl));
    begun = λ _. omega arith;
    back = back_more;
  }

-- ---- when no task is left
pub settled_effective :
    (S : State) (stored : ℕ → ℕ)
    → IsSound S
    → SettledBut S stored None
    → (t : ℕ)
    → IsTask S t
    → stored t ≡ effective_priority S t
settled_effective S stored ok settled t known = (stored_law S stored ok).0 (λ u task. settled u task (λ e. none-some u e)) t known
