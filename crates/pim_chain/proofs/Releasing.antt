-- Mutexes that go to their first waiters. Meanwhile the old owner may have another stored priority than its local one.
use Rattle.std.proofs.Common.{◌≡◌, ◌≤◌, ℕ, zero, suc, ◌+◌, cond, eqb, ◌⊎◌, inl, inr, refl, sym, ◌∙◌, ap, subst, arith, fold, length, List, [], ◌∷◌, filter, Option, Some, None, option_and_then}
use Rattle.std.proofs.lemmas.Bool.{cases_eq, eq-eqb, ne_eqb, false_from_ne_true}
use Rattle.std.proofs.lemmas.List.{set-set}
use Rattle.std.proofs.lemmas.Option.{none-some, same_Some}
use Rattle.pim_base.specs.Lists.{put, first_item, holds, numbers}
use Rattle.pim_base.specs.State.{State, IsTask, IsMutex, owned, owner_of, wait_of, with_owner, with_wait}
use Rattle.pim_base.specs.Chains.{heir, heir_of, blocker}
use Rattle.pim_base.specs.Priorities.{local_priority}
use Rattle.pim_base.specs.Queues.{first_of, queue_of}
use Rattle.pim_base.specs.Steps.{hand_over, hand_over_to}
use Rattle.pim_base.specs.declared.limits.TheConstants.{MAX_MUTEXES}
use Rattle.pim_base.specs.declared.steps.Wait.{Wait}
use Rattle.pim_base.specs.declared.steps.Waiter.{Waiter}
use Rattle.pim_base.proofs.HandOvers.{owner_of-hand_over_other, protocol-hand_over, base-hand_over, idle-hand_over}
use Rattle.pim_base.proofs.NoCycle.{unwrap_or-put_same, idle_now}
use Rattle.pim_base.proofs.Stored.{from_holds}
use Rattle.pim_chain.specs.Views.{View, Ready, IsQueue, with_state, stored_at, queue_at, queue_in}
use Rattle.pim_chain.specs.Settled.{SettledBut, Calm, left, moved, restored}
use Rattle.pim_sets.specs.Work.{Work, Tells}
use Rattle.pim_chain.proofs.Local.{local_priority-same}
use Rattle.pim_chain.proofs.Changes.{wait_other}
use Rattle.pim_chain.proofs.Unsettled.{bound_unsettles, unbound_unsettles, left_unsettles}
use Rattle.pim_chain.proofs.Visit.{ready_restored, visited_free}
use Rattle.pim_chain.proofs.Known.{owned_mutex}
use Rattle.pim_chain.proofs.Models.{queue_is}
use Rattle.pim_chain.proofs.Waiting.{waiting_known}
use Rattle.pim_chain.proofs.Filters.{few_pass, first_passes, filter-rest}
use Rattle.pim_chain.proofs.Told.{tells-refl, tells-trans}

-- ---- a task that waits for nothing: no other one's local priority depends on its stored one

-- it hands its priority on to nobody
pub no_heir : (S : State) (a : ℕ) → wait_of S a ≡ None → heir S a ≡ None
no_heir S a idle = ap (option_and_then (λ (w : Wait). heir_of S w.mutex)) idle

-- who hands it on is another one
not_donor : (S : State) (a u t : ℕ) → wait_of S a ≡ None → heir S u ≡ Some t → u ≡ a → ⊥
not_donor S a u t idle e is = none-some t (sym (no_heir S a idle) ∙ ap (heir S) (sym is) ∙ e)

-- the priorities with the local one for it
abbrev right_at : State → (ℕ → ℕ) → ℕ → ℕ → ℕ
right_at S f a u = cond (eqb u a) (local_priority S f a) (f u)

right_at-other : (S : State) (f : ℕ → ℕ) (a u : ℕ) → (u ≡ a → ⊥) → right_at S f a u ≡ f u
right_at-other S f a u ne = ap (λ b. cond b (local_priority S f a) (f u)) (ne_eqb u a ne)

settled_right : (S : State) (f : ℕ → ℕ) (a : ℕ) → wait_of S a ≡ None → SettledBut S f (Some a) → SettledBut S (right_at S f a) None
settled_right S f a idle settled t known _ = go (cases_eq t a)
  where
    same : local_priority S f t ≡ local_priority S (right_at S f a) t
    same = local_priority-same S f (right_at S f a) t (λ u _ e. sym (right_at-other S f a u (not_donor S a u t idle e)))

    go : (t ≡ a) ⊎ (t ≡ a → ⊥) → right_at S f a t ≡ local_priority S (right_at S f a) t
    go (inl is) = ap (λ b. cond b (local_priority S f a) (f t)) (eq-eqb t a is) ∙ ap (local_priority S f) (sym is) ∙ same
    go (inr ne) = right_at-other S f a t ne ∙ settled t known (λ e. ne (sym (same_Some a t e))) ∙ same

-- A change that unsettles at most the task o. That waits for nothing then and, unless it is a, gets its local priority. So
-- all but a have theirs, if they had before.
pub settled_apart :
    (S T : State) (f h : ℕ → ℕ) (a : ℕ) (o : Option ℕ)
    → wait_of S a ≡ None
    → wait_of T a ≡ None
    → ((g : ℕ → ℕ) → SettledBut S g None → SettledBut T g o)
    → ((x : ℕ) → o ≡ Some x → wait_of T x ≡ None)
    → ((x : ℕ) → o ≡ Some x → (x ≡ a → ⊥) → h x ≡ local_priority T f x)
    → ((u : ℕ) → (o ≡ Some u → ⊥) → h u ≡ f u)
    → SettledBut S f (Some a)
    → SettledBut T h (Some a)
settled_apart S T f h a o before after change idle right others settled t known away = go (either o)
  where
    ne : t ≡ a → ⊥
    ne is = away (ap Some (sym is))

    same : local_priority T f t ≡ local_priority T h t
    same = local_priority-same T f h t (λ u _ e. sym (others u (λ is. none-some t (sym (no_heir T u (idle u is)) ∙ e))))

    either : (p : Option ℕ) → (p ≡ Some t) ⊎ (p ≡ Some t → ⊥)
    either None = inr (none-some t)
    either (Some x) = elim (cases_eq x t) [ inl is ↦ inl (ap Some is) | inr ne ↦ inr (λ e. ne (same_Some x t e)) ]

    go : (o ≡ Some t) ⊎ (o ≡ Some t → ⊥) → h t ≡ local_priority T h t
    go (inl is) = right t is ne ∙ same
    go (inr away) =
        others t away ∙ sym (right_at-other S f a t ne) ∙ change (right_at S f a) (settled_right S f a before settled) t known away
        ∙ local_priority-same T (right_at S f a) f t (λ u _ e. right_at-other S f a u (not_donor T a u t after e))
        ∙ same

-- each queue is the definitions', since the task is in none
pub queue_apart :
    (v : View) (m a : ℕ)
    → Ready v
    → IsMutex v.state m
    → IsTask v.state a
    → wait_of v.state a ≡ None
    → SettledBut v.state (stored_at v) (Some a)
    → queue_at v m ≡ queue_of v.state m
queue_apart v m a ready known task idle settled =
    sym (ap (λ w. queue_in (moved v.queues w a prio) m) idle) ∙ queue_is (restored v a prio) m calm known
  where
    prio : ℕ
    prio = local_priority v.state (stored_at v) a

    calm : Calm (restored v a prio)
    calm = record {
      ready = ready_restored v a prio task ready;
      settled = (visited_free v a prio ready task settled refl idle).settled;
    }

-- so the first waiter for a mutex that it owns is
pub first_apart :
    (v : View) (m a : ℕ) (o q : Option Waiter)
    → Ready v
    → owner_of v.state m ≡ Some a
    → wait_of v.state a ≡ None
    → SettledBut v.state (stored_at v) (Some a)
    → o ≡ first_item (queue_at v m)
    → o ≡ q
    → first_of v.state m ≡ q
first_apart v m a o q ready owned idle settled is same =
    ap first_item (sym (queue_apart v m a ready (owned_mutex v.state m a ready.sound.lists owned) (ready.waits.owners m a owned) idle settled))
    ∙ sym is
    ∙ same

-- no task has the number 0
pub all_but_zero : (S : State) (f : ℕ → ℕ) → SettledBut S f (Some 0) → SettledBut S f None
all_but_zero S f settled t known _ = settled t known (λ e. let zero = same_Some 0 t e in omega (arith, zero, known))

-- ---- one mutex
put-put : {X : Type 0} (xs : List X) (n : ℕ) (x y : X) → put (put xs n x) n y ≡ put xs n y
put-put xs zero x y = refl
put-put xs (suc i) x y = set-set xs i x y

pub freed_owner : (S : State) (m : ℕ) → owner_of (with_owner S m None) m ≡ None
freed_owner S m = elim (unwrap_or-put_same S.owner m None) [ inl h ↦ h | inr h ↦ h ]

-- a mutex that becomes free and then its first waiter's is handed over
pub handed_state :
    (S F T : State) (m : ℕ) (w : Waiter)
    → F ≡ with_owner S m None
    → T ≡ with_wait (with_owner F m (Some w.task)) w.task None
    → first_of S m ≡ Some w
    → T ≡ hand_over S m
handed_state S F T m w freed passed first =
    passed
    ∙ ap (λ (U : State). with_wait (with_owner U m (Some w.task)) w.task None) freed
    ∙ ap (λ os. record S { owner = os; count = put (put S.count m 0) m 1; wait = put S.wait w.task None }) (put-put S.owner m None (Some w.task))
    ∙ ap (λ cs. record S { owner = put S.owner m (Some w.task); count = cs; wait = put S.wait w.task None }) (put-put S.count m 0 1)
    ∙ ap (hand_over_to S m) (sym first)

pub lost_owner : (S T : State) (m a t : ℕ) → T ≡ with_wait (with_owner S m (Some t)) t None → (a ≡ t → ⊥) → owner_of T m ≡ Some a → ⊥
lost_owner S T m a t is ne owns = go (unwrap_or-put_same S.owner m (Some t))
  where
    mine : owner_of (with_owner S m (Some t)) m ≡ Some a
    mine = sym (ap (λ (U : State). owner_of U m) is) ∙ owns

    go : (owner_of (with_owner S m (Some t)) m ≡ Some t) ⊎ (owner_of (with_owner S m (Some t)) m ≡ None) → ⊥
    go (inl given) = ne (sym (same_Some t a (sym given ∙ mine)))
    go (inr none) = none-some a (sym none ∙ mine)

-- the first of a queue waits
pub first_waits :
    {v : View} {m : ℕ} {w : Waiter}
    → Ready v
    → IsMutex v.state m
    → first_item (queue_at v m) ≡ Some w
    → wait_of v.state w.task ≡ Some (record { mutex = m; ticket = w.ticket })
first_waits {v} {m} {w} ready known e = go (queue_at v m) (ready.queues m known) e
  where
    go :
        (ws : List Waiter)
        → IsQueue (wait_of v.state) (stored_at v) m ws
        → first_item ws ≡ Some w
        → wait_of v.state w.task ≡ Some (record { mutex = m; ticket = w.ticket })
    go [] q h = cc
    go (x ∷ xs) q h =
        subst (λ (y : Waiter). wait_of v.state y.task ≡ Some (record { mutex = m; ticket = y.ticket })) (same_Some x w h) q.sound.0.waits

pub idle_is_other : (S : State) (t a : ℕ) (w : Wait) → wait_of S t ≡ Some w → wait_of S a ≡ None → a ≡ t → ⊥
idle_is_other S t a w waits idle same = none-some w (sym (ap (wait_of S) (sym same) ∙ idle) ∙ waits)

-- the owner has lost the mutex
pub freed_apart :
    (v u : View) (m a : ℕ)
    → owner_of v.state m ≡ Some a
    → wait_of v.state a ≡ None
    → u ≡ with_state v (with_owner v.state m None)
    → SettledBut v.state (stored_at v) (Some a)
    → SettledBut u.state (stored_at u) (Some a)
freed_apart v u m a owned idle is settled =
    subst (λ (y : View). SettledBut y.state (stored_at y) (Some a)) (sym is)
    (settled_apart v.state (with_owner v.state m None) (stored_at v) (stored_at v) a (owner_of v.state m) idle idle
    (λ g. unbound_unsettles v.state g m)
    (λ x e. ap (wait_of v.state) (same_Some x a (sym e ∙ owned)) ∙ idle) (λ x e ne. absurd (ne (same_Some x a (sym e ∙ owned))))
    (λ y _. refl) settled)

-- the first waiter t for the free mutex has left its queue
pub left_apart :
    (v x : View) (m t k a : ℕ)
    → Ready v
    → owner_of v.state m ≡ None
    → wait_of v.state t ≡ Some (record { mutex = m; ticket = k })
    → x ≡ left v t m
    → wait_of v.state a ≡ None
    → SettledBut v.state (stored_at v) (Some a)
    → SettledBut x.state (stored_at x) (Some a)
left_apart v x m t k a ready free waits is idle settled =
    subst (λ (y : View). SettledBut y.state (stored_at y) (Some a)) (sym is)
    (settled_apart v.state (with_wait v.state t None) (stored_at v) (stored_at v) a (blocker v.state t) idle
    (wait_other v.state t None a (idle_is_other v.state t a _ waits idle) ∙ idle)
    (λ g. left_unsettles v.state g t ready.sound.lists (waiting_known v.state ready.sound.lists t _ waits))
    (λ u e. absurd (none-some u (sym blocked ∙ e))) (λ u e. absurd (none-some u (sym blocked ∙ e))) (λ u _. refl) settled)
  where
    blocked : blocker v.state t ≡ None
    blocked = ap (option_and_then (λ (y : Wait). owner_of v.state y.mutex)) waits ∙ free

-- and it is the owner, with its local priority
pub passed_apart :
    (v x y z : View) (m t k a : ℕ)
    → Ready v
    → owner_of v.state m ≡ None
    → wait_of v.state t ≡ Some (record { mutex = m; ticket = k })
    → x ≡ left v t m
    → y ≡ with_state x (with_owner x.state m (Some t))
    → z.state ≡ y.state
    → ((u : ℕ) → (u ≡ t → ⊥) → stored_at z u ≡ stored_at y u)
    → wait_of v.state a ≡ None
    → (SettledBut x.state (stored_at x) (Some a) → stored_at z t ≡ local_priority y.state (stored_at y) t)
    → SettledBut v.state (stored_at v) (Some a)
    → SettledBut z.state (stored_at z) (Some a)
passed_apart v x y z m t k a ready free waits gone is same others idle right settled =
    subst (λ S. SettledBut S (stored_at z) (Some a)) (sym (same ∙ ap (λ (w : View). w.state) is))
    (settled_apart x.state (with_owner x.state m (Some t)) (stored_at x) (stored_at z) a (Some t) apart apart
    (λ g. bound_unsettles x.state g m t (ap (λ (w : View). owner_of w.state m) gone ∙ free))
    (λ u e. ap (wait_of x.state) (sym (same_Some t u e)) ∙ ap (λ (w : View). wait_of w.state t) gone ∙ idle_now v.state t)
    (λ u e _. subst (λ n. stored_at z n ≡ local_priority (with_owner x.state m (Some t)) (stored_at x) n) (same_Some t u e)
    (right before ∙ ap (λ (w : View). local_priority w.state (stored_at w) t) is))
    (λ u ne. others u (λ e. ne (ap Some (sym e))) ∙ ap (λ w. stored_at w u) is) before)
  where
    before : SettledBut x.state (stored_at x) (Some a)
    before = left_apart v x m t k a ready free waits gone idle settled

    apart : wait_of x.state a ≡ None
    apart = ap (λ (w : View). wait_of w.state a) gone ∙ wait_other v.state t None a (idle_is_other v.state t a _ waits idle) ∙ idle

-- ---- all of them: those that are left are those that the task still owns

-- the first mutex that a task owns
pub record IsOwned (S : State) (m a : ℕ) : Type 0 where
  pub mutex : IsMutex S m
  pub owner : owner_of S m ≡ Some a

pub first_owned : (S : State) (m a : ℕ) (ms : List ℕ) → owned S a ≡ m ∷ ms → IsOwned S m a
first_owned S m a ms is =
    let first = first_passes (λ k. holds (owner_of S k) a) 1 (length S.protocol) m ms is in
    let low = first.low in
    let high = first.high in
    record { mutex = (low, omega (arith, high)); owner = from_holds (owner_of S m) a first.passes }

-- the others that the owner has stay
pub owned-hand_over : (S : State) (m a : ℕ) (ms : List ℕ) → (owner_of (hand_over S m) m ≡ Some a → ⊥) → owned S a ≡ m ∷ ms → owned (hand_over S m) a ≡ ms
owned-hand_over S m a ms lost is =
    ap (λ ps. filter (λ k. holds (owner_of (hand_over S m) k) a) (numbers (length ps))) (protocol-hand_over S m)
    ∙ filter-rest (λ k. holds (owner_of S k) a) (λ k. holds (owner_of (hand_over S m) k) a) 1 (length S.protocol) m ms is
    (false_from_ne_true _ (λ h. lost (from_holds (owner_of (hand_over S m) m) a h)))
    (λ k other. ap (λ o. holds o a) (owner_of-hand_over_other S m k other))

pub record Releasing (v w : View) (a : ℕ) (left : List ℕ) (released : ℕ) (b d : Work) : Type 0 where
  pub owns : left ≡ owned w.state a
  pub state : fold hand_over w.state left ≡ fold hand_over v.state (owned v.state a)
  pub counted : released + length left ≡ length (owned v.state a)
  pub few : length (owned v.state a) ≤ MAX_MUTEXES
  pub idle : wait_of w.state a ≡ None
  pub bases : w.state.base ≡ v.state.base
  pub settled : SettledBut w.state (stored_at w) (Some a)
  pub none : released ≡ 0 → SettledBut w.state (stored_at w) None
  pub ready : Ready w
  pub work : Tells (length v.state.base) (stored_at v) b (stored_at w) d
  pub most : d.count ≤ b.count + released

pub releasing_none :
    (v : View) (a : ℕ) (left : List ℕ) (b : Work)
    → left ≡ owned v.state a
    → wait_of v.state a ≡ None
    → Ready v
    → SettledBut v.state (stored_at v) None
    → Releasing v v a left 0 b b
releasing_none v a left b is idle ready settled = record {
  owns = is;
  state = ap (fold hand_over v.state) is;
  counted = (let same = ap length is in omega (arith, same));
  few =
      (let few = few_pass (λ m. holds (owner_of v.state m) a) 1 (length v.state.protocol) in
      let mutexes = ready.few_mutexes in
      omega (arith, few, mutexes));
  idle = idle;
  bases = refl;
  settled = λ t known _. settled t known (λ e. none-some t e);
  none = λ _. settled;
  ready = ready;
  work = tells-refl (length v.state.base) (stored_at v) b;
  most = omega arith;
}

-- one more
pub releasing_next :
    (v w x : View) (a m released : ℕ) (left rest : List ℕ) (b d e : Work)
    → Releasing v w a left released b d
    → left ≡ m ∷ rest
    → x.state ≡ hand_over w.state m
    → SettledBut x.state (stored_at x) (Some a)
    → (owner_of x.state m ≡ Some a → ⊥)
    → Ready x
    → Tells (length w.state.base) (stored_at w) d (stored_at x) e
    → e.count ≤ d.count + 1
    → Releasing v x a rest (released + 1) b e
releasing_next v w x a m released left rest b d e before next is settled owns_no_more ready work most = record {
  owns =
      sym (ap (λ V. owned V a) is
      ∙ owned-hand_over w.state m a rest (λ mine. owns_no_more (ap (λ V. owner_of V m) is ∙ mine)) (sym before.owns ∙ next));
  state = ap (λ V. fold hand_over V rest) is ∙ ap (fold hand_over w.state) (sym next) ∙ before.state;
  counted = (let one = ap length next in let all = before.counted in omega (arith, one, all));
  few = before.few;
  idle = ap (λ V. wait_of V a) is ∙ idle-hand_over w.state m a before.idle;
  bases = ap (λ (V : State). V.base) is ∙ base-hand_over w.state m ∙ before.bases;
  settled = settled;
  none = λ zero. absurd (omega (arith, zero));
  ready = ready;
  work =
      tells-trans (length v.state.base) (stored_at v) (stored_at w) (stored_at x) b d e before.work
      (subst (λ n. Tells n (stored_at w) d (stored_at x) e) (ap length before.bases) work);
  most = (let so_far = before.most in omega (arith, so_far, most));
}
