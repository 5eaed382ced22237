-- The queues: who is first, and how a change of one task changes them.
use Rattle.std.proofs.Common.{◌≡◌, ℕ, eqb, suc, ◌<◌, ◌≤◌, max, true, false, inl, inr, refl, sym, ◌∙◌, ap, subst, arith, le_antisymm, Option, Some, None, List, [], ◌∷◌, ◌++◌, ◌+◌, length, length-append, map}
use Rattle.std.specs.List.{list_any, AllByRecursion, IsDistinct}
use Rattle.std.proofs.lemmas.Bool.{both_ways, cases_eq, eqb-true, eq-eqb, ne_eqb, cond_both}
use Rattle.std.proofs.lemmas.List.{length-map}
use Rattle.std.proofs.lemmas.Option.{none-some, same_Some}
use Rattle.std.proofs.lemmas.Map.Steps.{length-le_from_distinct_below}
use Rattle.std.proofs.Math.Nat.{le-max_left, max-le}
use Rattle.pim_base.specs.Lists.{holds, insert_by}
use Rattle.pim_base.specs.State.{State, IsState, IsTask, wait_of}
use Rattle.pim_base.specs.Chains.{heir_of}
use Rattle.pim_base.specs.Priorities.{own_priority, local_priority}
use Rattle.pim_base.specs.Queues.{precedes}
use Rattle.pim_base.specs.declared.steps.Wait.{Wait}
use Rattle.pim_base.specs.declared.steps.Waiter.{Waiter}
use Rattle.pim_base.proofs.Greatest.{greatest_of, greatest_of-le, le-greatest_of}
use Rattle.pim_base.proofs.Places.{nth_within}
use Rattle.pim_base.proofs.Stored.{own_priority-le-local_priority, stored-le-local_priority, local_priority-le, holds_from, from_holds}
use Rattle.pim_queue.specs.QueueView.{QueueView}
use Rattle.pim_queue.specs.Waiters.{is_of, without, IsOrdered}
use Rattle.pim_queue.proofs.Order.{found, all_both, all_each, before_prio, before_itself, all_without, ordered_without, any_without, all_place, ordered_place, any_place_new, any_place}
use Rattle.pim_chain.specs.Rooms.{total}
use Rattle.pim_chain.specs.Views.{first_prio, queue_in, waits_for, Shows, IsQueue, WaitsFit}
use Rattle.pim_chain.proofs.Local.{top, through, heir_at, waits_for_from}

pub waiting_known : (S : State) → IsState S → (t : ℕ) (w : Wait) → wait_of S t ≡ Some w → IsTask S t
waiting_known S lists t w e = grind (arith, nth_within S.wait t, lists.waits)

pub waiter_is : (w : Waiter) (t p k : ℕ) → w.task ≡ t → w.prio ≡ p → w.ticket ≡ k → w ≡ record { task = t; prio = p; ticket = k }
waiter_is w t p k task prio ticket = λ i. record { task = task i; prio = prio i; ticket = ticket i }

-- ---- the greatest at a mutex is first
shown_le :
    (wait : ℕ → Option Wait) (stored : ℕ → ℕ) (m u b : ℕ) (ws : List Waiter)
    → list_any (is_of u) ws ≡ true
    → AllByRecursion (Shows wait stored m) ws
    → AllByRecursion (λ v. v.prio ≤ b) ws
    → stored u ≤ b
shown_le wait stored m u b ws h shows under =
    let it = found (is_of u) _ ws h (all_both (Shows wait stored m) (λ v. v.prio ≤ b) (λ v. stored v.task ≤ b) (λ v k l. rw k.prio at l) ws shows under) in
    rw (eqb-true it.one.task u it.passes) at it.holds

pub top_front :
    (S : State) (stored : ℕ → ℕ) (m : ℕ) (ws : List Waiter)
    → IsState S
    → IsQueue (wait_of S) stored m ws
    → top S stored m ≡ first_prio ws
top_front S stored m [] lists q = grind (arith, greatest_of-le, q.complete)
top_front S stored m (w ∷ ws) lists q =
    let known : IsTask S w.task = waiting_known S lists w.task _ q.sound.0.waits in
    le_antisymm
    (greatest_of-le stored (waits_for (wait_of S) m) (length S.base) w.prio
    (λ u _ _ h. shown_le (wait_of S) stored m u w.prio (w ∷ ws) (q.complete u h) q.sound
    (omega arith, all_each _ _ (λ v k. before_prio w v k) ws q.ordered.0)))
    (rw q.sound.0.prio (le-greatest_of stored (waits_for (wait_of S) m) (length S.base) w.task known.0 known.1
    (waits_for_from (wait_of S) w.task _ q.sound.0.waits)))

-- ---- the local priority, mutex by mutex
pub local_by_mutexes :
    (S : State) (stored : ℕ → ℕ) (t : ℕ)
    → WaitsFit S
    → local_priority S stored t ≡ max (own_priority S t) (greatest_of (top S stored) (λ m. holds (heir_of S m) t) (length S.protocol))
local_by_mutexes S stored t fit =
    le_antisymm
    (local_priority-le S stored t _ (le-max_left _ _) (λ u task e.
    let by = through S u t e in
    let known = fit.mutexes u by.wait by.waits in
    omega (
      arith,
      le-greatest_of stored (waits_for (wait_of S) by.wait.mutex) (length S.base) u task.0 task.1 (waits_for_from (wait_of S) u by.wait by.waits),
      le-greatest_of (top S stored) (λ m. holds (heir_of S m) t) (length S.protocol) by.wait.mutex known.0 known.1 (holds_from _ t by.heir),
    )))
    (max-le
    (own_priority-le-local_priority S stored t)
    (greatest_of-le (top S stored) (λ m. holds (heir_of S m) t) (length S.protocol) _ (λ m _ _ p.
    greatest_of-le stored (waits_for (wait_of S) m) (length S.base) _ (λ u low high h.
    stored-le-local_priority S stored u t (low, high) (heir_at S m u h ∙ from_holds (heir_of S m) t p)))))

-- ---- the queues after one task has another wait or another priority
-- a queue that the task is in neither before nor after
pub queue_kept :
    (wait wait' : ℕ → Option Wait) (old new : ℕ → ℕ) (x m : ℕ) (ws : List Waiter)
    → ((u : ℕ) → (u ≡ x → ⊥) → wait' u ≡ wait u)
    → ((u : ℕ) → (u ≡ x → ⊥) → new u ≡ old u)
    → (waits_for wait m x ≡ true → ⊥)
    → (waits_for wait' m x ≡ true → ⊥)
    → IsQueue wait old m ws
    → IsQueue wait' new m ws
queue_kept wait wait' old new x m ws waits others away away' q = record {
  ordered = q.ordered;
  sound = all_each (Shows wait old m) (Shows wait' new m) (λ v k.
      let ne : v.task ≡ x → ⊥ = λ e. away (rw e at (waits_for_from wait v.task _ k.waits)) in
      record { waits = waits v.task ne ∙ k.waits; prio = k.prio ∙ sym (others v.task ne) }) ws q.sound;
  complete = λ t h. q.complete t (rw (waits t (λ is. away' (rw is at h))) at h);
}

-- two waiters of one task show the same
pub same_waiter :
    (wait : ℕ → Option Wait) (stored : ℕ → ℕ) (m : ℕ) (a b : Waiter)
    → Shows wait stored m a
    → Shows wait stored m b
    → a.task ≡ b.task
    → a ≡ b
same_waiter wait stored m a b p q e =
    waiter_is a b.task b.prio b.ticket e (p.prio ∙ ap stored e ∙ sym q.prio)
    (ap (λ (w : Wait). w.ticket) (same_Some _ _ (sym p.waits ∙ ap wait e ∙ q.waits)))

-- the waiters behind the first are of other tasks
pub others_behind :
    (wait : ℕ → Option Wait) (stored : ℕ → ℕ) (m : ℕ) (v : Waiter) (vs : List Waiter)
    → AllByRecursion (λ u. precedes v u ≡ true) vs
    → Shows wait stored m v
    → AllByRecursion (Shows wait stored m) vs
    → AllByRecursion (λ u. v.task ≡ u.task → ⊥) vs
others_behind wait stored m v vs behind shown shows =
    all_both (λ u. precedes v u ≡ true) (Shows wait stored m) (λ u. v.task ≡ u.task → ⊥) (λ u later k same.
    both_ways _ (before_itself u) (subst (λ x. precedes x u ≡ true) (same_waiter wait stored m v u shown k same) later)) vs behind shows

pub gone :
    (wait : ℕ → Option Wait) (stored : ℕ → ℕ) (m x : ℕ) (ws : List Waiter)
    → IsOrdered ws
    → AllByRecursion (Shows wait stored m) ws
    → AllByRecursion (λ v. v.task ≡ x → ⊥) (without x ws)
gone wait stored m x [] ordered shows = tt
gone wait stored m x (v ∷ vs) ordered shows =
    cond_both (is_of x v) vs (v ∷ without x vs) (AllByRecursion (λ u. u.task ≡ x → ⊥))
    (λ here. all_each (λ u. v.task ≡ u.task → ⊥) (λ u. u.task ≡ x → ⊥) (λ u ne is_x. ne (eqb-true v.task x here ∙ sym is_x)) vs
    (others_behind wait stored m v vs ordered.0 shows.0 shows.1))
    (λ away. ((λ is_x. both_ways _ away (eq-eqb v.task x is_x)), gone wait stored m x vs ordered.1 shows.1))

-- a queue that the task leaves
pub queue_left :
    (wait wait' : ℕ → Option Wait) (old new : ℕ → ℕ) (x m : ℕ) (ws : List Waiter)
    → ((u : ℕ) → (u ≡ x → ⊥) → wait' u ≡ wait u)
    → ((u : ℕ) → (u ≡ x → ⊥) → new u ≡ old u)
    → (waits_for wait' m x ≡ true → ⊥)
    → IsQueue wait old m ws
    → IsQueue wait' new m (without x ws)
queue_left wait wait' old new x m ws waits others away' q = record {
  ordered = ordered_without x ws q.ordered;
  sound =
      all_both (Shows wait old m) (λ v. v.task ≡ x → ⊥) (Shows wait' new m)
      (λ v k ne. record { waits = waits v.task ne ∙ k.waits; prio = k.prio ∙ sym (others v.task ne) }) (without x ws)
      (all_without (Shows wait old m) x ws q.sound) (gone wait old m x ws q.ordered q.sound);
  complete = λ t h.
      let ne : t ≡ x → ⊥ = λ is. away' (rw is at h) in
      any_without x t ws ne (q.complete t (rw (waits t ne) at h));
}

-- a queue that the task joins
pub queue_joined :
    (wait wait' : ℕ → Option Wait) (old new : ℕ → ℕ) (x : ℕ) (w : Wait) (ws : List Waiter)
    → ((u : ℕ) → (u ≡ x → ⊥) → wait' u ≡ wait u)
    → ((u : ℕ) → (u ≡ x → ⊥) → new u ≡ old u)
    → (waits_for wait w.mutex x ≡ true → ⊥)
    → wait' x ≡ Some w
    → ((u : ℕ) → (u ≡ x → ⊥) → wait u ≡ Some w → ⊥)
    → IsQueue wait old w.mutex ws
    → IsQueue wait' new w.mutex (insert_by precedes ws (record { task = x; prio = new x; ticket = w.ticket }))
queue_joined wait wait' old new x w ws waits others away now fresh q = record {
  ordered = ordered_place joined ws q.ordered (all_each (Shows wait old w.mutex) (λ v. v.ticket ≡ w.ticket → ⊥) (λ v k same.
      fresh v.task (other v k) (k.waits ∙ ap (λ n. Some (record { mutex = w.mutex; ticket = n })) same)) ws q.sound);
  sound = all_place (Shows wait' new w.mutex) joined ws (record { waits = now; prio = refl })
      (all_each (Shows wait old w.mutex) (Shows wait' new w.mutex)
      (λ v k. record { waits = waits v.task (other v k) ∙ k.waits; prio = k.prio ∙ sym (others v.task (other v k)) }) ws q.sound);
  complete = λ t h. elim (cases_eq t x) [
    | inl is ↦ any_place_new (is_of t) joined ws (eq-eqb x t (sym is))
    | inr ne ↦ any_place (is_of t) joined ws (q.complete t (rw (waits t ne) at h))
  ];
}
  where
    joined : Waiter
    joined = record { task = x; prio = new x; ticket = w.ticket }

    other : (v : Waiter) → Shows wait old w.mutex v → v.task ≡ x → ⊥
    other v k e = away (rw e at (waits_for_from wait v.task _ k.waits))

-- ---- there is room for one who waits nowhere
all_tasks : (P : ℕ → Type 0) (ws : List Waiter) → AllByRecursion (λ w. P w.task) ws → AllByRecursion P (map (λ (w : Waiter). w.task) ws)
all_tasks P [] h = tt
all_tasks P (w ∷ ws) h = (h.0, all_tasks P ws h.1)

distinct_tasks :
    (wait : ℕ → Option Wait) (stored : ℕ → ℕ) (m : ℕ) (ws : List Waiter)
    → IsOrdered ws
    → AllByRecursion (Shows wait stored m) ws
    → IsDistinct eqb (map (λ (w : Waiter). w.task) ws)
unfolding IsDistinct
distinct_tasks wait stored m [] ordered shows = tt
distinct_tasks wait stored m (v ∷ vs) ordered shows = (
  all_tasks (λ t. eqb v.task t ≡ false) vs
      (all_each _ _ (λ u ne. ne_eqb v.task u.task ne) vs (others_behind wait stored m v vs ordered.0 shows.0 shows.1)),
  distinct_tasks wait stored m vs ordered.1 shows.1,
)

-- the tasks that wait, queue by queue
tasks_of : List QueueView → List ℕ
tasks_of [] = []
tasks_of (q ∷ qs) = map (λ (w : Waiter). w.task) q.waiters ++ tasks_of qs

length-tasks_of : (qs : List QueueView) → length (tasks_of qs) ≡ total qs
unfolding tasks_of
length-tasks_of [] = refl
length-tasks_of (q ∷ qs) =
    omega (
      arith,
      length-append (map (λ (w : Waiter). w.task) q.waiters) (tasks_of qs),
      length-map q.waiters (λ (w : Waiter). w.task),
      length-tasks_of qs,
    )

all_append : (P : ℕ → Type 0) (xs ys : List ℕ) → AllByRecursion P xs → AllByRecursion P ys → AllByRecursion P (xs ++ ys)
all_append P [] ys h k = k
all_append P (x ∷ xs) ys h k = (h.0, all_append P xs ys h.1 k)

distinct_both :
    (xs ys : List ℕ)
    → IsDistinct eqb xs
    → IsDistinct eqb ys
    → AllByRecursion (λ x. AllByRecursion (λ y. eqb x y ≡ false) ys) xs
    → IsDistinct eqb (xs ++ ys)
unfolding IsDistinct
distinct_both [] ys dx dy apart = dy
distinct_both (x ∷ xs) ys dx dy apart = (all_append (λ y. eqb x y ≡ false) xs ys dx.0 apart.0, distinct_both xs ys dx.1 dy apart.1)

module _ (wait : ℕ → Option Wait) (stored : ℕ → ℕ) where
  -- each is the queue of its mutex, the first that of mutex k
  AreQueues : ℕ → List QueueView → Type 0
  AreQueues k [] = Unit {0}
  AreQueues k (q ∷ qs) = IsQueue wait stored k q.waiters × AreQueues (suc k) qs

  queues_from :
      (k : ℕ) (qs : List QueueView)
      → ((i : ℕ) → i < length qs → IsQueue wait stored (k + i) (queue_in qs (suc i)))
      → AreQueues k qs
  unfolding AreQueues
  queues_from k [] h = tt
  queues_from k (q ∷ qs) h =
      let here : k + 0 ≡ k = omega arith in (
        rw here at (h 0 (omega arith)),
        queues_from (suc k) qs (λ i low.
            let next : k + suc i ≡ suc k + i = omega arith in
            rw next at (h (suc i) (omega arith))),
      )

  -- the task waits for mutex k or a later one
  record WaitsFrom (k t : ℕ) : Type 0 where
    for : Wait
    waits : wait t ≡ Some for
    late : k ≤ for.mutex

  all_wait : (k : ℕ) (qs : List QueueView) → AreQueues k qs → AllByRecursion (WaitsFrom k) (tasks_of qs)
  unfolding AreQueues tasks_of
  all_wait k [] h = tt
  all_wait k (q ∷ qs) h =
      all_append (WaitsFrom k) _ (tasks_of qs)
      (all_tasks (WaitsFrom k) q.waiters (all_each (Shows wait stored k) (λ w. WaitsFrom k w.task)
      (λ w shows. record { for = record { mutex = k; ticket = w.ticket }; waits = shows.waits; late = omega arith }) q.waiters h.0.sound))
      (all_each (WaitsFrom (suc k)) (WaitsFrom k) (λ t it. record { for = it.for; waits = it.waits; late = omega (arith, it.late) }) (tasks_of qs)
      (all_wait (suc k) qs h.1))

  -- a task waits for one mutex only
  all_distinct : (k : ℕ) (qs : List QueueView) → AreQueues k qs → IsDistinct eqb (tasks_of qs)
  unfolding AreQueues tasks_of IsDistinct
  all_distinct k [] h = tt
  all_distinct k (q ∷ qs) h =
      distinct_both _ (tasks_of qs) (distinct_tasks wait stored k q.waiters h.0.ordered h.0.sound) (all_distinct (suc k) qs h.1)
      (all_tasks (λ t. AllByRecursion (λ u. eqb t u ≡ false) (tasks_of qs)) q.waiters
      (all_each (Shows wait stored k) (λ w. AllByRecursion (λ u. eqb w.task u ≡ false) (tasks_of qs)) (λ w shows.
      all_each (WaitsFrom (suc k)) (λ u. eqb w.task u ≡ false) (λ u it. ne_eqb w.task u (λ e.
      let same : k ≡ it.for.mutex = ap (λ (x : Wait). x.mutex) (same_Some _ _ (sym shows.waits ∙ ap wait e ∙ it.waits)) in
      absurd (omega (arith, it.late, same)))) (tasks_of qs) (all_wait (suc k) qs h.1)) q.waiters h.0.sound))

-- all that wait and one that doesn't are at most all tasks
pub room_for :
    (S : State) (stored : ℕ → ℕ) (x : ℕ) (qs : List QueueView)
    → IsState S
    → IsTask S x
    → wait_of S x ≡ None
    → ((m : ℕ) → 1 ≤ m → m ≤ length qs → IsQueue (wait_of S) stored m (queue_in qs m))
    → total qs < length S.base
unfolding IsDistinct
room_for S stored x qs lists known idle queues =
    let all : length (0 ∷ x ∷ tasks_of qs) ≤ suc (length S.base) =
    length-le_from_distinct_below (0 ∷ x ∷ tasks_of qs) (suc (length S.base)) (
      (ne_eqb 0 x (λ e. absurd (omega (arith, e, known.0))), each (λ t. eqb 0 t ≡ false) (λ t task _. ne_eqb 0 t (λ e. absurd (omega (arith, e, task.0))))),
      (
        each (λ t. eqb x t ≡ false) (λ t _ it. ne_eqb x t (λ e. none-some it.for (sym idle ∙ ap (wait_of S) e ∙ it.waits))),
        all_distinct (wait_of S) stored 1 qs are,
      ),
    )
    (λ k h.
    let it = found (eqb k) (λ t. t < suc (length S.base)) (0 ∷ x ∷ tasks_of qs) h
    (omega arith, (omega (arith, known.1), each (λ t. t < suc (length S.base)) (λ t task _. omega (arith, task.1)))) in
    rw (eqb-true k it.one it.passes) it.holds) in
    omega (arith, all, length-tasks_of qs)
  where
    are : AreQueues (wait_of S) stored 1 qs
    are = queues_from (wait_of S) stored 1 qs (λ i low.
        let e : suc i ≡ 1 + i = omega arith in
        subst (λ n. IsQueue (wait_of S) stored n (queue_in qs (suc i))) e (queues (suc i) (omega arith) (omega arith)))

    each : (P : ℕ → Type 0) → ((t : ℕ) → IsTask S t → WaitsFrom (wait_of S) stored 1 t → P t) → AllByRecursion P (tasks_of qs)
    each P h =
        all_each (WaitsFrom (wait_of S) stored 1) P (λ t it. h t (waiting_known S lists t it.for it.waits) it) (tasks_of qs) (all_wait (wait_of S) stored 1 qs are)
