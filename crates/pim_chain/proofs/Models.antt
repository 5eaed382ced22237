-- The definitions' queue is one that tables may have, so it is theirs.
use Rattle.std.proofs.Common.{◌≡◌, ◌==◌, false, ℕ, zero, suc, true, cond, inl, inr, refl, sym, ◌∙◌, ap, subst, arith, Option, Some, None, List, length, ltb}
use Rattle.std.proofs.lemmas.Bool.{both_ways, cases_Bool, eqb-true}
use Rattle.std.proofs.lemmas.Bool.Decides.{nat_tests}
use Rattle.pim_base.specs.State.{State, IsState, IsMutex, wait_of}
use Rattle.pim_base.specs.Priorities.{effective_priority}
use Rattle.pim_base.specs.Queues.{waiter_of, queue_of}
use Rattle.pim_base.specs.declared.steps.Wait.{Wait}
use Rattle.pim_base.specs.declared.steps.Waiter.{Waiter}
use Rattle.pim_chain.specs.Views.{View, stored_at, queue_at, waits_for, IsQueue, WaitsFit, Shows}
use Rattle.pim_chain.proofs.Waiting.{queue_kept, queue_joined, waiting_known}
use Rattle.pim_chain.proofs.Walking.{settled_effective}
use Rattle.std.specs.Option.{option_map_or}
use Rattle.std.specs.List.{list_any, AllByRecursion}
use Rattle.pim_queue.specs.Waiters.{is_of}
use Rattle.pim_queue.proofs.Order.{all_each, found, Found}
use Rattle.pim_chain.specs.Settled.{Calm}
use Rattle.pim_base.proofs.Firsts.{queue_upto, queue_upto-some, queue_upto-none}
use Rattle.pim_chain.proofs.Unique.{same_queue}

-- the waits of the tasks up to n
abbrev among : State → ℕ → ℕ → Option Wait
among S n u = cond (ltb n u) None (wait_of S u)

among_more : (S : State) (n u : ℕ) → (u ≡ suc n → ⊥) → among S (suc n) u ≡ among S n u
among_more S n u ne = grind (arith, nat_tests)

among_all : (S : State) → IsState S → (t : ℕ) → among S (length S.base) t ≡ wait_of S t
among_all S lists t = grind (arith, nat_tests, waiting_known S lists t)

waiter_some :
    (S : State) (t : ℕ) (w : Wait)
    → wait_of S t ≡ Some w
    → waiter_of S w.mutex t ≡ Some (record { task = t; prio = effective_priority S t; ticket = w.ticket })
waiter_some S t w e = grind (arith, nat_tests)

-- who waits for the mutex has a ticket there
waiting_at : (m : ℕ) (o : Option Wait) → option_map_or (λ (w : Wait). w.mutex == m) o false ≡ true → (k : ℕ) × (o ≡ Some (record { mutex = m; ticket = k }))
waiting_at m None h = cc
waiting_at m (Some w) h = (w.ticket, ap (λ k. Some (record w { mutex = k })) (eqb-true w.mutex m h))

model_upto : (S : State) → WaitsFit S → (m n : ℕ) → IsQueue (among S n) (effective_priority S) m (queue_upto (waiter_of S m) n)
model_upto S fit m zero = record {
  ordered = tt;
  sound = tt;
  complete = λ t h. grind (arith, nat_tests);
}
model_upto S fit m (suc n) = elim (cases_Bool (waits_for (wait_of S) m (suc n))) [
  | inr away ↦
      rw (queue_upto-none (waiter_of S m) (suc n) n (omega arith) (grind (arith, nat_tests, away)))
      (queue_kept (among S n) (among S (suc n)) (effective_priority S) (effective_priority S) (suc n) m _ (among_more S n) (λ u _. refl) idle
      (λ h. both_ways _ away (rw here at h)) (model_upto S fit m n))
  | inl waits ↦
      let it = waiting_at m (wait_of S (suc n)) waits in
      rw (queue_upto-some (waiter_of S m) (suc n) n _ (omega arith) (waiter_some S (suc n) _ it.1))
      (queue_joined (among S n) (among S (suc n)) (effective_priority S) (effective_priority S) (suc n) _ _ (among_more S n) (λ u _. refl) idle
      (here ∙ it.1) (λ u ne f. ne (fit.tickets u (suc n) _ (grind (arith, nat_tests, f)) it.1)) (model_upto S fit m n))
]
  where
    idle : waits_for (among S n) m (suc n) ≡ true → ⊥
    idle h = grind (arith, nat_tests)

    here : among S (suc n) (suc n) ≡ wait_of S (suc n)
    here = grind (arith, nat_tests)

-- who is listed waits
pub listed_waits :
    (wait : ℕ → Option Wait) (stored : ℕ → ℕ) (m t : ℕ) (ws : List Waiter)
    → list_any (is_of t) ws ≡ true
    → AllByRecursion (Shows wait stored m) ws
    → waits_for wait m t ≡ true
listed_waits wait stored m t ws h shows =
    let it : Found (is_of t) (Shows wait stored m) ws = found (is_of t) (Shows wait stored m) ws h shows in
    grind (arith, nat_tests, it.passes, it.holds.waits)

-- the queue of calm tables is the definitions'
pub queue_is : (v : View) (m : ℕ) → Calm v → IsMutex v.state m → queue_at v m ≡ queue_of v.state m
queue_is v m calm known =
    same_queue (wait_of v.state) (stored_at v) m (queue_at v m) (queue_of v.state m) mine.ordered mine.sound theirs.ordered
    (all_each _ _ shown (queue_of v.state m) theirs.sound)
    (λ t h. theirs.complete t (listed_waits (wait_of v.state) (stored_at v) m t (queue_at v m) h mine.sound))
    (λ t h. mine.complete t (listed_waits (wait_of v.state) (effective_priority v.state) m t (queue_of v.state m) h theirs.sound))
  where
    mine : IsQueue (wait_of v.state) (stored_at v) m (queue_at v m)
    mine = calm.ready.queues m known

    theirs : IsQueue (wait_of v.state) (effective_priority v.state) m (queue_of v.state m)
    theirs =
        subst (λ wait. IsQueue wait (effective_priority v.state) m (queue_of v.state m)) (λ i t. among_all v.state calm.ready.sound.lists t i)
        (model_upto v.state calm.ready.waits m (length v.state.base))

    shown : (w : Waiter) → Shows (wait_of v.state) (effective_priority v.state) m w → Shows (wait_of v.state) (stored_at v) m w
    shown w k =
        let known = waiting_known v.state calm.ready.sound.lists w.task _ k.waits in
        record { waits = k.waits; prio = k.prio ∙ sym (settled_effective v.state (stored_at v) calm.ready.sound calm.settled w.task known) }
