-- What a single change of the state leaves in order.
use Rattle.std.proofs.Common.{◌≡◌, ℕ, eqb, ◌≤◌, true, false, ◌⊎◌, inl, inr, refl, sym, ◌∙◌, ap, subst, arith, le_antisymm, Option, Some, None, List, [], ◌∷◌, length, unwrap_or, option_and_then, map}
use Rattle.std.specs.Option.{option_map_or}
use Rattle.std.proofs.lemmas.Bool.{both_ways, cases_eq, eqb-true}
use Rattle.std.proofs.lemmas.Option.{none-some, same_Some}
use Rattle.pim_base.specs.Lists.{holds, put, greatest}
use Rattle.pim_base.specs.Laws.{IsSound}
use Rattle.pim_base.specs.State.{State, IsState, IsTask, IsMutex, base_of, owner_of, wait_of, with_owner, with_wait, with_base}
use Rattle.pim_base.specs.Chains.{heir, heir_of, leads_back}
use Rattle.pim_base.specs.Priorities.{own_priority, ceiling_of}
use Rattle.pim_base.specs.declared.steps.Wait.{Wait}
use Rattle.pim_base.specs.declared.steps.Waiter.{Waiter}
use Rattle.pim_sets.proofs.Members.{filter_same}
use Rattle.pim_base.proofs.Places.{nth-put_same, nth-put_other, length-put}
use Rattle.pim_base.proofs.Closing.{leads_back-cycle}
use Rattle.pim_base.proofs.NoCycle.{owner_sound, idle_sound, idle_now, base_sound, unwrap_or-put_same}
use Rattle.pim_base.proofs.Stored.{own_priority-le-local_priority, stored-le-local_priority, local_priority-le}
use Rattle.pim_queue.specs.QueueView.{QueueView, with_waiters}
use Rattle.pim_queue.specs.Waiters.{without}
use Rattle.pim_chain.specs.Views.{View, stored_in, stored_at, queue_at, view_in, put_queue, with_state, waits_for, IsQueue, WaitsFit, Ready}
use Rattle.pim_chain.specs.Settled.{SettledBut, left, joined}
use Rattle.pim_chain.proofs.Waiting.{queue_kept, queue_left, queue_joined}

-- two states with the same tasks, that differ in nothing that the priority of another task than x comes from
pub record DiffersAt (S T : State) (x : ℕ) : Type 0 where
  pub tasks : length T.base ≡ length S.base
  pub own : (t : ℕ) → (t ≡ x → ⊥) → own_priority S t ≡ own_priority T t
  pub kept : (u t : ℕ) → (t ≡ x → ⊥) → heir S u ≡ Some t → heir T u ≡ Some t
  pub added : (u t : ℕ) → (t ≡ x → ⊥) → heir T u ≡ Some t → heir S u ≡ Some t

pub differs_settled : (S T : State) (stored : ℕ → ℕ) (x : ℕ) → DiffersAt S T x → SettledBut S stored None → SettledBut T stored (Some x)
differs_settled S T stored x differs settled t task away =
    let ne : t ≡ x → ⊥ = λ e. away (ap Some (sym e)) in
    settled t (rw (← differs.tasks) task) (λ e. none-some t e)
    ∙ le_antisymm
    (local_priority-le S stored t _ (rw (differs.own t ne) (own_priority-le-local_priority T stored t))
    (λ u known e. stored-le-local_priority T stored u t (rw differs.tasks known) (differs.kept u t ne e)))
    (local_priority-le T stored t _ (rw (← differs.own t ne) (own_priority-le-local_priority S stored t))
    (λ u known e. stored-le-local_priority S stored u t (rw (← differs.tasks) known) (differs.added u t ne e)))

-- nobody else than x
abbrev pub AtMost : Option ℕ → ℕ → Type 0
AtMost o x = (t : ℕ) → o ≡ Some t → t ≡ x

-- ---- another owner
pub owner_other : (S : State) (m : ℕ) (o : Option ℕ) (k : ℕ) → (k ≡ m → ⊥) → owner_of (with_owner S m o) k ≡ owner_of S k
owner_other S m o k ne = ap (λ v. unwrap_or v None) (nth-put_other S.owner m k o (λ e. ne (sym e)))

-- whoever owns a mutex now is the new owner, or owned it before
owner_from :
    (S : State) (m : ℕ) (o : Option ℕ) (k t : ℕ)
    → owner_of (with_owner S m o) k ≡ Some t
    → (o ≡ Some t) ⊎ (owner_of S k ≡ Some t)
owner_from S m o k t e = elim (cases_eq k m) [
  | inl is ↦ inl (grind (arith, unwrap_or-put_same S.owner m o))
  | inr ne ↦ inr (sym (owner_other S m o k ne) ∙ e)
]

holds_same : (a b : Option ℕ) (t : ℕ) → (a ≡ Some t → b ≡ Some t) → (b ≡ Some t → a ≡ Some t) → holds a t ≡ holds b t
holds_same a b t there back = grind (arith, there, back)

pub differs_owner : (S : State) (m : ℕ) (o : Option ℕ) (x : ℕ) → AtMost (owner_of S m) x → AtMost o x → DiffersAt S (with_owner S m o) x
differs_owner S m o x was is = record {
  tasks = refl;
  own = λ t ne.
      ap (λ ms. greatest (base_of S t ∷ map (ceiling_of S) ms))
      (filter_same _ _ 1 (length S.protocol) (λ k _ _. holds_same (owner_of S k) (owner_of (with_owner S m o) k) t (kept t ne k) (added t ne k)));
  kept = λ u t ne e. grind (arith, kept t ne);
  added = λ u t ne e. grind (arith, added t ne);
}
  where
    kept : (t : ℕ) → (t ≡ x → ⊥) → (k : ℕ) → owner_of S k ≡ Some t → owner_of (with_owner S m o) k ≡ Some t
    kept t ne k e = owner_other S m o k (λ same. ne (was t (rw (← same) e))) ∙ e

    added : (t : ℕ) → (t ≡ x → ⊥) → (k : ℕ) → owner_of (with_owner S m o) k ≡ Some t → owner_of S k ≡ Some t
    added t ne k e = elim (owner_from S m o k t e) [ inl now ↦ absurd (ne (is t now)) | inr before ↦ before ]

-- ---- another wait
pub wait_other : (S : State) (t : ℕ) (o : Option Wait) (u : ℕ) → (u ≡ t → ⊥) → wait_of (with_wait S t o) u ≡ wait_of S u
wait_other S t o u ne = ap (λ v. unwrap_or v None) (nth-put_other S.wait t u o (λ e. ne (sym e)))

pub wait_now : (S : State) (t : ℕ) (o : Option Wait) → IsState S → IsTask S t → wait_of (with_wait S t o) t ≡ o
wait_now S t o lists known = ap (λ v. unwrap_or v None) (nth-put_same S.wait t o known.0 (rw lists.waits known.1))

-- who gets its priority, if anybody
abbrev pub heir_through : State → Option Wait → Option ℕ
heir_through S o = option_and_then (λ (w : Wait). heir_of S w.mutex) o

pub differs_wait :
    (S : State) (t : ℕ) (o : Option Wait) (x : ℕ)
    → IsState S
    → IsTask S t
    → AtMost (heir S t) x
    → AtMost (heir_through S o) x
    → DiffersAt S (with_wait S t o) x
differs_wait S t o x lists known was is = record {
  tasks = refl;
  own = λ y ne. refl;
  kept = λ u y ne e. ap (heir_through S) (wait_other S t o u (λ same. ne (was y (rw (← same) e)))) ∙ e;
  added = λ u y ne e. sym (ap (heir_through S) (wait_other S t o u (λ same. ne (is y (ap (heir_through S) (sym (wait_now S t o lists known)) ∙ (rw same at e)))))) ∙ e;
}

-- ---- another base priority
pub differs_base : (S : State) (x p : ℕ) → DiffersAt S (with_base S x p) x
differs_base S x p = record {
  tasks = length-put S.base x p;
  own = λ t ne. rw (nth-put_other S.base x t p (λ e. ne (sym e))) refl;
  kept = λ u t ne e. e;
  added = λ u t ne e. e;
}

-- ---- what is ready stays so
-- in another state with as many tasks and mutexes, and the same waits
pub ready_with :
    (v : View) (T : State)
    → length T.base ≡ length v.state.base
    → length T.protocol ≡ length v.state.protocol
    → T.wait ≡ v.state.wait
    → IsSound T
    → ((m t : ℕ) → owner_of T m ≡ Some t → IsTask v.state t)
    → Ready v
    → Ready (with_state v T)
ready_with v T tasks mutexes wait sound owners ready = record {
  sound = sound;
  few_tasks = rw tasks ready.few_tasks;
  few_mutexes = rw mutexes ready.few_mutexes;
  stored_len = ready.stored_len ∙ sym tasks;
  queues_len = ready.queues_len ∙ sym mutexes;
  waits = record {
    owners = λ m t e. rw tasks (owners m t e);
    mutexes = λ t w e. rw mutexes (ready.waits.mutexes t w (rw (← wait) e));
    tickets = λ t u w e f. ready.waits.tickets t u w (rw (← wait) e) (rw (← wait) f);
  };
  queues = λ k known. rw wait (ready.queues k (rw (← mutexes) known));
  room = λ k known. rw tasks (ready.room k (rw (← mutexes) known));
}

-- another owner, or none, which closes no cycle
ready_owner :
    (v : View) (m : ℕ) (o : Option ℕ)
    → IsSound (with_owner v.state m o)
    → ((t : ℕ) → o ≡ Some t → IsTask v.state t)
    → Ready v
    → Ready (with_state v (with_owner v.state m o))
ready_owner v m o sound known ready =
    ready_with v (with_owner v.state m o) refl refl refl sound
    (λ k t e. elim (owner_from v.state m o k t e) [ inl now ↦ known t now | inr before ↦ ready.waits.owners k t before ]) ready

-- a known task is the owner, which closes no cycle
pub ready_owned :
    (v : View) (m t : ℕ)
    → IsTask v.state t
    → (IsSound v.state → IsSound (with_owner v.state m (Some t)))
    → Ready v
    → Ready (with_state v (with_owner v.state m (Some t)))
ready_owned v m t known sound ready = ready_owner v m (Some t) (sound ready.sound) (λ y e. rw (sym (same_Some t y e)) known) ready

pub ready_freed : (v : View) (m : ℕ) → Ready v → Ready (with_state v (with_owner v.state m None))
ready_freed v m ready =
    ready_owner v m None (owner_sound v.state m None (λ t e. absurd (none-some t e)) ready.sound) (λ t e. absurd (none-some t e)) ready

pub ready_based : (v : View) (t p : ℕ) → Ready v → Ready (with_state v (with_base v.state t p))
ready_based v t p ready =
    ready_with v (with_base v.state t p) (length-put v.state.base t p) refl refl (base_sound v.state t p ready.sound) ready.waits.owners ready

-- ---- queues after one was changed
pub view_same :
    (queues : List QueueView) (m : ℕ) (ws : List Waiter)
    → 1 ≤ m
    → m ≤ length queues
    → view_in (put_queue queues m ws) m ≡ with_waiters (view_in queues m) ws
view_same queues m ws low high =
    ap (λ o. unwrap_or o (record { waiters = []; room = 0 })) (nth-put_same queues m (with_waiters (view_in queues m) ws) low high)

pub view_other : (queues : List QueueView) (m k : ℕ) (ws : List Waiter) → (k ≡ m → ⊥) → view_in (put_queue queues m ws) k ≡ view_in queues k
view_other queues m k ws ne =
    ap (λ o. unwrap_or o (record { waiters = []; room = 0 })) (nth-put_other queues m k (with_waiters (view_in queues m) ws) (λ e. ne (sym e)))

-- with other waits, other stored priorities and another queue of m, if each queue is still in order
pub ready_requeued :
    (v : View) (waits : List (Option Wait)) (stored : List ℕ) (m : ℕ) (ws : List Waiter)
    → Ready v
    → IsSound (record v.state { wait = waits })
    → WaitsFit (record v.state { wait = waits })
    → length stored ≡ length v.stored
    → IsQueue (wait_of (record v.state { wait = waits })) (stored_in stored) m ws
    → ((k : ℕ) → IsMutex v.state k → (k ≡ m → ⊥) → IsQueue (wait_of (record v.state { wait = waits })) (stored_in stored) k (queue_at v k))
    → Ready (record { state = record v.state { wait = waits }; stored = stored; queues = put_queue v.queues m ws })
ready_requeued v waits stored m ws ready sound fit len here others = record {
  sound = sound;
  few_tasks = ready.few_tasks;
  few_mutexes = ready.few_mutexes;
  stored_len = len ∙ ready.stored_len;
  queues_len = length-put v.queues m _ ∙ ready.queues_len;
  waits = fit;
  queues = λ k known. (fits k known).0;
  room = λ k known. (fits k known).1;
}
  where
    Fits : ℕ → QueueView → Type 0
    Fits k q = IsQueue (wait_of (record v.state { wait = waits })) (stored_in stored) k q.waiters × (length v.state.base ≤ q.room)

    fits : (k : ℕ) → IsMutex v.state k → Fits k (view_in (put_queue v.queues m ws) k)
    fits k known = elim (cases_eq k m) [
      | inl is ↦
          let known_m : IsMutex v.state m = rw (← is) known in
          rw is (subst (Fits m) (sym (view_same v.queues m ws known_m.0 (rw ready.queues_len known_m.1))) (here, ready.room m known_m))
      | inr ne ↦ subst (Fits k) (sym (view_other v.queues m k ws ne)) (others k known ne, ready.room k known)
    ]

pub not_waiting : (wait : ℕ → Option Wait) (m t : ℕ) → wait t ≡ None → waits_for wait m t ≡ true → ⊥
not_waiting wait m t e h = both_ways _ (ap (λ o. option_map_or (λ (w : Wait). eqb w.mutex m) o false) e) h

pub waits_once : (wait : ℕ → Option Wait) (m t : ℕ) (w : Wait) → wait t ≡ Some w → waits_for wait m t ≡ true → w.mutex ≡ m
waits_once wait m t w e h = eqb-true w.mutex m (sym (ap (λ o. option_map_or (λ (x : Wait). eqb x.mutex m) o false) e) ∙ h)

pub ready_left : (v : View) (t : ℕ) (w : Wait) → wait_of v.state t ≡ Some w → Ready v → Ready (left v t w.mutex)
ready_left v t w at ready =
    ready_requeued v (put v.state.wait t None) v.stored w.mutex (without t (queue_at v w.mutex)) ready (idle_sound v.state t ready.sound)
    (record {
      owners = ready.waits.owners;
      mutexes = λ u x e. ready.waits.mutexes u x (old u x e);
      tickets = λ u y x e f. ready.waits.tickets u y x (old u x e) (old y x f);
    })
    refl
    (queue_left _ _ _ _ t w.mutex _ (wait_other v.state t None) (λ u _. refl) (not_waiting (wait_of (with_wait v.state t None)) w.mutex t idle)
    (ready.queues w.mutex (ready.waits.mutexes t w at)))
    (λ k known ne. queue_kept _ _ _ _ t k _ (wait_other v.state t None) (λ u _. refl) (λ h. ne (sym (waits_once (wait_of v.state) k t w at h)))
    (not_waiting (wait_of (with_wait v.state t None)) k t idle) (ready.queues k known))
  where
    idle : wait_of (with_wait v.state t None) t ≡ None
    idle = idle_now v.state t

    old : (u : ℕ) (x : Wait) → wait_of (with_wait v.state t None) u ≡ Some x → wait_of v.state u ≡ Some x
    old u x e = sym (wait_other v.state t None u (λ same. none-some x (sym idle ∙ (rw same at e)))) ∙ e

pub ready_joined :
    (v : View) (t : ℕ) (w : Wait)
    → IsTask v.state t
    → IsMutex v.state w.mutex
    → wait_of v.state t ≡ None
    → leads_back v.state t w.mutex ≡ false
    → ((u : ℕ) → wait_of v.state u ≡ Some w → ⊥)
    → Ready v
    → Ready (joined v t w)
ready_joined v t w known mutex idle open' fresh ready =
    ready_requeued v (put v.state.wait t (Some w)) v.stored w.mutex _ ready
    (record {
      lists = record {
        waits = length-put v.state.wait t (Some w) ∙ ready.sound.lists.waits;
        owners = ready.sound.lists.owners;
        counts = ready.sound.lists.counts;
      };
      no_cycle = λ h. both_ways _ open' ((leads_back-cycle v.state t w.mutex w.ticket ready.sound.lists ready.sound.no_cycle known idle).1 h);
    })
    (record {
      owners = ready.waits.owners;
      mutexes = λ u x e. elim (now_or_old u x e) [
        | inl at ↦ subst (λ (y : Wait). IsMutex v.state y.mutex) at.1 mutex
        | inr old ↦ ready.waits.mutexes u x old
      ];
      tickets = λ u y x e f. tickets u y x (now_or_old u x e) (now_or_old y x f);
    })
    refl
    (queue_joined _ _ _ (stored_at v) t w _ (wait_other v.state t (Some w)) (λ u _. refl) (not_waiting (wait_of v.state) w.mutex t idle) now (λ u _ e. fresh u e)
    (ready.queues w.mutex mutex))
    (λ k isk ne. queue_kept _ _ _ _ t k _ (wait_other v.state t (Some w)) (λ u _. refl) (not_waiting (wait_of v.state) k t idle)
    (λ h. ne (sym (waits_once (wait_of (with_wait v.state t (Some w))) k t w now h))) (ready.queues k isk))
  where
    now : wait_of (with_wait v.state t (Some w)) t ≡ Some w
    now = wait_now v.state t (Some w) ready.sound.lists known

    now_or_old : (u : ℕ) (x : Wait) → wait_of (with_wait v.state t (Some w)) u ≡ Some x → ((u ≡ t) × (w ≡ x)) ⊎ (wait_of v.state u ≡ Some x)
    now_or_old u x e = elim (cases_eq u t) [
      | inl is ↦ inl (is, same_Some w x (sym now ∙ (rw is at e)))
      | inr ne ↦ inr (sym (wait_other v.state t (Some w) u ne) ∙ e)
    ]

    tickets :
        (u y : ℕ) (x : Wait)
        → ((u ≡ t) × (w ≡ x)) ⊎ (wait_of v.state u ≡ Some x)
        → ((y ≡ t) × (w ≡ x)) ⊎ (wait_of v.state y ≡ Some x)
        → u ≡ y
    tickets u y x (inl a) (inl b) = a.0 ∙ sym b.0
    tickets u y x (inl a) (inr b) = absurd (fresh y (rw a.1 b))
    tickets u y x (inr a) (inl b) = absurd (fresh u (rw b.1 a))
    tickets u y x (inr a) (inr b) = ready.waits.tickets u y x a b
