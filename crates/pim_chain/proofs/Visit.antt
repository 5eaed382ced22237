-- One visit.
use Rattle.std.proofs.Common.{◌≡◌, ℕ, eqb, ◌==◌, Bool, cond, if◌then◌else◌, true, false, inl, inr, refl, sym, ◌∙◌, ap, subst, Option, Some, None, unwrap_or, option_and_then}
use Rattle.std.specs.List.{find}
use Rattle.std.specs.Option.{option_map_or}
use Rattle.std.proofs.lemmas.Bool.{cases_eq, eqb-true, eq-eqb, ne_eqb}
use Rattle.std.proofs.lemmas.Option.{none-some, same_Some}
use Rattle.pim_base.specs.Lists.{put, insert_by}
use Rattle.pim_base.specs.State.{IsTask, IsMutex, wait_of}
use Rattle.pim_base.specs.Chains.{heir, heir_of}
use Rattle.pim_base.specs.Priorities.{local_priority}
use Rattle.pim_base.specs.Queues.{precedes}
use Rattle.pim_base.specs.declared.steps.Wait.{Wait}
use Rattle.pim_base.specs.declared.steps.Waiter.{Waiter}
use Rattle.pim_base.proofs.Places.{nth-put_same, nth-put_other, length-put}
use Rattle.pim_queue.specs.Waiters.{is_of, without, ticket_of, repositioned}
use Rattle.pim_queue.proofs.Order.{found}
use Rattle.pim_chain.specs.Views.{View, stored_in, stored_at, queue_at, first_prio, waits_for, Shows, IsQueue, Ready}
use Rattle.pim_chain.specs.Settled.{SettledBut, moved, restored, Visited, next_of}
use Rattle.pim_chain.proofs.Local.{Mends, mended_onward, mended_stop, waits_for_from, heir_at}
use Rattle.pim_chain.proofs.Waiting.{waiter_is, queue_kept, queue_left, queue_joined, top_front}
use Rattle.pim_chain.proofs.Changes.{ready_requeued, not_waiting, waits_once}

-- ---- another stored priority
pub stored_now : (v : View) (x p : ℕ) → Ready v → IsTask v.state x → stored_in (put v.stored x p) x ≡ p
stored_now v x p ready known = ap (λ o. unwrap_or o 0) (nth-put_same v.stored x p known.0 (rw ready.stored_len known.1))

pub stored_else : (v : View) (x p u : ℕ) → (u ≡ x → ⊥) → stored_in (put v.stored x p) u ≡ stored_at v u
stored_else v x p u ne = ap (λ o. unwrap_or o 0) (nth-put_other v.stored x u p (λ e. ne (sym e)))

-- the task is in the queue of the mutex that it waits for, with its stored priority and its ticket
pub stands :
    (v : View) (x : ℕ) (w : Wait)
    → Ready v
    → wait_of v.state x ≡ Some w
    → find (is_of x) (queue_at v w.mutex) ≡ Some (record { task = x; prio = stored_at v x; ticket = w.ticket })
stands v x w ready at =
    let q = ready.queues w.mutex (ready.waits.mutexes x w at) in
    let it =
    found (is_of x) (Shows (wait_of v.state) (stored_at v) w.mutex) (queue_at v w.mutex)
    (q.complete x (waits_for_from (wait_of v.state) x w at)) q.sound in
    let task : it.one.task ≡ x = eqb-true it.one.task x it.passes in
    it.is
    ∙ ap Some (waiter_is it.one x (stored_at v x) w.ticket task (it.holds.prio ∙ ap (stored_at v) task)
    (ap (λ (y : Wait). y.ticket) (same_Some _ _ (sym it.holds.waits ∙ ap (wait_of v.state) task ∙ at))))

-- the queue of the mutex that the task waits for, afterwards
queue_moved :
    (v : View) (x p : ℕ) (w : Wait)
    → Ready v
    → IsTask v.state x
    → wait_of v.state x ≡ Some w
    → IsQueue (wait_of v.state) (stored_in (put v.stored x p)) w.mutex (repositioned x p (queue_at v w.mutex))
queue_moved v x p w ready known at =
    subst (λ u. IsQueue (wait_of v.state) (stored_in (put v.stored x p)) w.mutex (insert_by precedes (without x (queue_at v w.mutex)) u))
    (λ i. record { task = x; prio = stored_now v x p ready known i; ticket = ticket i })
    (queue_joined away (wait_of v.state) (stored_at v) (stored_in (put v.stored x p)) x w (without x (queue_at v w.mutex))
    back (stored_else v x p) (not_waiting away w.mutex x idle) at
    (λ u ne e. ne (ready.waits.tickets u x w (back u ne ∙ e) at))
    (queue_left (wait_of v.state) away (stored_at v) (stored_at v) x w.mutex (queue_at v w.mutex) (λ u ne. sym (back u ne)) (λ u _. refl)
    (not_waiting away w.mutex x idle) (ready.queues w.mutex (ready.waits.mutexes x w at))))
  where
    ticket : w.ticket ≡ ticket_of x (queue_at v w.mutex)
    ticket = ap (λ o. option_map_or (λ (u : Waiter). u.ticket) o 0) (sym (stands v x w ready at))

    -- the waits without that of x
    away : ℕ → Option Wait
    away u = cond (eqb u x) None (wait_of v.state u)

    idle : away x ≡ None
    idle = ap (λ b. cond b None (wait_of v.state x)) (eq-eqb x x refl)

    back : (u : ℕ) → (u ≡ x → ⊥) → wait_of v.state u ≡ away u
    back u ne = sym (ap (λ b. cond b None (wait_of v.state u)) (ne_eqb u x ne))

pub ready_restored : (v : View) (x p : ℕ) → IsTask v.state x → Ready v → Ready (restored v x p)
ready_restored v x p known ready = go (wait_of v.state x) refl
  where
    kept :
        (k : ℕ)
        → IsMutex v.state k
        → (waits_for (wait_of v.state) k x ≡ true → ⊥)
        → IsQueue (wait_of v.state) (stored_in (put v.stored x p)) k (queue_at v k)
    kept k isk away =
        queue_kept (wait_of v.state) (wait_of v.state) (stored_at v) (stored_in (put v.stored x p)) x k (queue_at v k)
        (λ u _. refl) (stored_else v x p) away away (ready.queues k isk)

    go : (o : Option Wait) → wait_of v.state x ≡ o → Ready (record v { stored = put v.stored x p; queues = moved v.queues o x p })
    go None at = record {
      sound = ready.sound;
      few_tasks = ready.few_tasks;
      few_mutexes = ready.few_mutexes;
      stored_len = length-put v.stored x p ∙ ready.stored_len;
      queues_len = ready.queues_len;
      waits = ready.waits;
      queues = λ k isk. kept k isk (not_waiting (wait_of v.state) k x at);
      room = ready.room;
    }
    go (Some w) at =
        ready_requeued v v.state.wait (put v.stored x p) w.mutex _ ready ready.sound ready.waits (length-put v.stored x p)
        (queue_moved v x p w ready known at) (λ k isk ne. kept k isk (λ h. ne (sym (waits_once (wait_of v.state) k x w at h))))

-- ---- what a visit leaves
pub visited_same :
    (v : View) (x : ℕ)
    → SettledBut v.state (stored_at v) (Some x)
    → stored_at v x ≡ local_priority v.state (stored_at v) x
    → Visited v v x None
visited_same v x settled right = record {
  state = refl;
  settled = λ t task _. elim (cases_eq t x) [ inl is ↦ rw is right | inr ne ↦ settled t task (λ e. ne (sym (same_Some _ _ e))) ];
  others = λ u _. refl;
  onward = λ y e. absurd (none-some y e);
}

module _ (v : View) (x p : ℕ) (ready : Ready v) (known : IsTask v.state x) (settled : SettledBut v.state (stored_at v) (Some x))
    (is : p ≡ local_priority v.state (stored_at v) x) where
  mends : Mends v.state (stored_at v) (stored_at (restored v x p)) x
  mends = record { mended = stored_now v x p ready known ∙ is; others = stored_else v x p }

  onward : SettledBut v.state (stored_at (restored v x p)) (heir v.state x)
  onward = mended_onward v.state (stored_at v) (stored_at (restored v x p)) x ready.sound known settled mends

  -- the walk ends here
  ends : SettledBut v.state (stored_at (restored v x p)) None → Visited v (restored v x p) x None
  ends all = record { state = refl; settled = all; others = stored_else v x p; onward = λ y e. absurd (none-some y e) }

  -- the task waits for nothing
  pub visited_free : wait_of v.state x ≡ None → Visited v (restored v x p) x None
  visited_free free =
      ends (λ t task _. onward t task (λ e. none-some t (sym (ap (option_and_then (λ (w : Wait). heir_of v.state w.mutex)) free) ∙ e)))

  -- whether the task waits or not, and whether the front stayed or not
  pub visited_next : (p ≡ stored_at v x → ⊥) → {w : View} → w ≡ restored v x p → {o : Option ℕ} → o ≡ next_of v w x → Visited v w x o
  visited_next other is next = rw (next, is) (go (wait_of v.state x) refl)
    where
      onward_by : Option Wait → Option ℕ
      onward_by = option_and_then (λ (u : Wait). if first_prio (queue_at v u.mutex) == first_prio (queue_at (restored v x p) u.mutex) then None else heir_of v.state u.mutex)

      front :
          (w : Wait) (b : Bool)
          → wait_of v.state x ≡ Some w
          → (first_prio (queue_at v w.mutex) == first_prio (queue_at (restored v x p) w.mutex)) ≡ b
          → Visited v (restored v x p) x (if b then None else heir_of v.state w.mutex)
      front w true at same =
          let mutex = ready.waits.mutexes x w at in
          ends (mended_stop v.state (stored_at v) (stored_at (restored v x p)) x w.mutex ready.sound known settled mends
          (waits_for_from (wait_of v.state) x w at)
          (top_front v.state (stored_at (restored v x p)) w.mutex (queue_at (restored v x p) w.mutex) ready.sound.lists
          ((ready_restored v x p known ready).queues w.mutex mutex)
          ∙ sym (eqb-true _ _ same)
          ∙ sym (top_front v.state (stored_at v) w.mutex (queue_at v w.mutex) ready.sound.lists (ready.queues w.mutex mutex))))
      front w false at _ =
          let hop = heir_at v.state w.mutex x (waits_for_from (wait_of v.state) x w at) in
          record {
            state = refl;
            settled = subst (SettledBut v.state (stored_at (restored v x p))) hop onward;
            others = stored_else v x p;
            onward = λ y e. (hop ∙ e, λ same. other (sym (stored_now v x p ready known) ∙ same));
          }

      go : (q : Option Wait) → wait_of v.state x ≡ q → Visited v (restored v x p) x (onward_by q)
      go None at = visited_free at
      go (Some w) at = front w _ at refl
