-- The tables after a field was written, and what the calls on the queues ask for.
use Rattle.std.proofs.Common.{◌≡◌, ℕ, ◌≤◌, ◌<◌, true, false, refl, sym, ◌∙◌, ap, subst, arith, Option, Some, None, List, [], ◌∷◌, length, unwrap_or}
use Rattle.pim_base.proofs.Places.{nth_within}
use Rattle.pim_chain.proofs.Waiting.{room_for, waiting_known}
use Rattle.std.specs.List.{list_any, find, AllByRecursion}
use Rattle.std.specs.Option.{option_map}
use Rattle.std.proofs.lemmas.Option.{none-some, same_Some}
use Rattle.std.proofs.lemmas.Bool.{false_from_ne_true, eqb-true}
use Rattle.pim_base.specs.Lists.{nth, put}
use Rattle.pim_base.specs.State.{IsTask, IsMutex, wait_of, first_count, with_owner}
use Rattle.pim_base.specs.declared.steps.Wait.{Wait}
use Rattle.pim_base.specs.declared.steps.Waiter.{Waiter}
use Rattle.pim_queue.specs.QueueView.{QueueView}
use Rattle.pim_queue.specs.Waiters.{is_of, has_ticket, repositioned}
use Rattle.pim_queue.proofs.Order.{Found, found}
use Rattle.pim_chain.specs.Rooms.{total}
use Rattle.pim_chain.specs.Views.{View, Ready, Shows, IsQueue, with_state, stored_at, queue_at, queue_in, view_in, put_queue, waiter_at}
use Rattle.pim_chain.specs.Settled.{SettledBut, restored}
use Rattle.pim_chain.proofs.Local.{waits_for_from}
use Rattle.pim_chain.proofs.Changes.{not_waiting}
use Rattle.std.proofs.lemmas.Bool.Decides.{nat_tests}
use Rattle.pim_chain.proofs.Models.{listed_waits}
use Rattle.pim_chain.proofs.Visit.{stands}

-- ---- the tables after a field was written
pub owner_written :
    {v u : View} {m k j : ℕ} {owners : List (Option ℕ)} {counts : List ℕ} (o : Option ℕ)
    → v ≡ u
    → owners ≡ put v.state.owner k o
    → k ≡ m
    → counts ≡ put v.state.count j (first_count o)
    → j ≡ m
    → with_state v (record v.state { owner = owners; count = counts }) ≡ with_state u (with_owner u.state m o)
owner_written o same is at is_count at_count = cc

pub stored_written :
    {v u : View} {t k : ℕ} {stored : List ℕ} (p : ℕ)
    → v ≡ u
    → stored ≡ put v.stored k p
    → k ≡ t
    → record v { stored = stored } ≡ record u { stored = put u.stored t p }
stored_written p same is at = cc

-- the task waits for nothing
pub stored_free :
    {v u : View} {t k : ℕ} {stored : List ℕ} (p : ℕ)
    → v ≡ u
    → stored ≡ put v.stored k p
    → k ≡ t
    → wait_of u.state t ≡ None
    → record v { stored = stored } ≡ restored u t p
stored_free p same is at free = cc

-- the task is moved in the queue that it waits in
pub stored_waiting :
    {v u : View} {t k : ℕ} {stored : List ℕ} {queues : List QueueView} (p : ℕ) (w : Wait)
    → v ≡ u
    → stored ≡ put v.stored k p
    → k ≡ t
    → wait_of u.state t ≡ Some w
    → queues ≡ put_queue v.queues w.mutex (repositioned t p (queue_in v.queues w.mutex))
    → record v { stored = stored; queues = queues } ≡ restored u t p
stored_waiting p w same is at waits placed = cc

-- ---- what held of the tables before, of what they are then
pub ready_after : {v u w x : View} → v ≡ u → w ≡ x → (Ready u → Ready x) → Ready v → Ready w
ready_after same is step ready = subst Ready (sym is) (step (subst Ready same ready))

pub settled_after : {w x : View} {o : Option ℕ} → w ≡ x → SettledBut x.state (stored_at x) o → SettledBut w.state (stored_at w) o
settled_after {o = o} is = subst (λ (y : View). SettledBut y.state (stored_at y) o) (sym is)

-- ---- what the calls on the queues ask for
-- the numbers of a waiting task and of its mutex have a place in the lists
pub waiter_fits :
    {v u : View} {t : ℕ} {w : Wait}
    → v ≡ u
    → Ready v
    → wait_of u.state t ≡ Some w
    → (1 ≤ t) × (t ≤ length v.state.wait) × (1 ≤ w.mutex) × (w.mutex ≤ length v.queues) × IsTask u.state t
waiter_fits {v} {u} {t} {w} same ready waits =
    let there : Ready u = subst Ready same ready in
    let task : IsTask u.state t = waiting_known u.state there.sound.lists t w waits in
    let mutex : IsMutex u.state w.mutex = there.waits.mutexes t w waits in
    rw same (omega (arith, task, mutex, there.sound.lists.waits, there.queues_len))

pub join_room :
    (v u : View) (t m : ℕ)
    → v ≡ u
    → IsTask u.state t
    → IsMutex u.state m
    → wait_of u.state t ≡ None
    → Ready v
    → total v.queues < (view_in v.queues m).room
join_room v u t m same known mutex idle ready =
    let there : Ready u = subst Ready same ready in
    let short : total u.queues < length u.state.base =
    room_for u.state (stored_at u) t u.queues there.sound.lists known idle (λ k low high. there.queues k (low, rw there.queues_len at high)) in
    rw same (omega (arith, short, there.room m mutex))

pub stands_in :
    (v u : View) (t : ℕ) (w : Wait)
    → v ≡ u
    → Some w ≡ wait_of u.state t
    → Ready v
    → find (is_of t) (queue_at v w.mutex) ≡ Some (waiter_at u t w.ticket)
stands_in v u t w same at ready = rw same (stands u t w (subst Ready same ready) (sym at))

-- who doesn't wait is in no queue
pub not_here :
    (v u : View) (t m : ℕ)
    → v ≡ u
    → IsMutex u.state m
    → wait_of u.state t ≡ None
    → Ready v
    → list_any (is_of t) (queue_at v m) ≡ false
not_here v u t m same mutex idle ready =
    let shows = ((subst Ready same ready).queues m mutex).sound in
    rw same (false_from_ne_true _ (λ h. not_waiting (wait_of u.state) m t idle (listed_waits (wait_of u.state) (stored_at u) m t (queue_at u m) h shows)))

-- a waiter with the ticket waits with it
ticket_waits :
    (wait : ℕ → Option Wait) (stored : ℕ → ℕ) (m k : ℕ) (ws : List Waiter)
    → AllByRecursion (Shows wait stored m) ws
    → list_any (has_ticket k) ws ≡ true
    → (t : ℕ) × (wait t ≡ Some (record { mutex = m; ticket = k }))
ticket_waits wait stored m k ws shows h =
    let it : Found (has_ticket k) (Shows wait stored m) ws = found (has_ticket k) (Shows wait stored m) ws h shows in
    (it.one.task, it.holds.waits ∙ ap (λ n. Some (record { mutex = m; ticket = n })) (eqb-true it.one.ticket k it.passes))

-- who waits with the ticket shows it
ticket_there :
    (wait : ℕ → Option Wait) (stored : ℕ → ℕ) (m k t : ℕ) (ws : List Waiter)
    → wait t ≡ Some (record { mutex = m; ticket = k })
    → AllByRecursion (Shows wait stored m) ws
    → list_any (is_of t) ws ≡ true
    → list_any (has_ticket k) ws ≡ true
ticket_there wait stored m k t [] at shows h = h
ticket_there wait stored m k t (w ∷ ws) at shows h =
    grind (arith, nat_tests, shows.0.waits, ap wait, ticket_there wait stored m k t ws at shows.1)

-- a ticket that nobody waits with is in no queue
pub ticket_not_here :
    (v u : View) (m k : ℕ)
    → v ≡ u
    → IsMutex u.state m
    → ((y : ℕ) → wait_of u.state y ≡ Some (record { mutex = m; ticket = k }) → ⊥)
    → Ready v
    → list_any (has_ticket k) (queue_at v m) ≡ false
ticket_not_here v u m k same mutex fresh ready =
    let shows = ((subst Ready same ready).queues m mutex).sound in
    rw same (false_from_ne_true _ (λ h. let it = ticket_waits (wait_of u.state) (stored_at u) m k (queue_at u m) shows h in fresh it.0 it.1))

-- a queue has the ticket exactly if a task waits with it
pub ticket_told :
    (v : View) (m k : ℕ) (ws : List Waiter)
    → Ready v
    → Some ws ≡ option_map (λ (q : QueueView). q.waiters) (nth v.queues m)
    → (list_any (has_ticket k) ws ≡ true → (t : ℕ) × (wait_of v.state t ≡ Some (record { mutex = m; ticket = k })))
    × (((t : ℕ) × (wait_of v.state t ≡ Some (record { mutex = m; ticket = k }))) → list_any (has_ticket k) ws ≡ true)
ticket_told v m k ws ready at = (
  ticket_waits (wait_of v.state) (stored_at v) m k ws here.sound,
  λ h. ticket_there (wait_of v.state) (stored_at v) m k h.0 ws h.1 here.sound (here.complete h.0 (waits_for_from (wait_of v.state) h.0 _ h.1)),
)
  where
    -- an unknown mutex has no queue
    its : (o : Option QueueView) → nth v.queues m ≡ o → Some ws ≡ option_map (λ (q : QueueView). q.waiters) o → IsQueue (wait_of v.state) (stored_at v) m ws
    its None e none = absurd (none-some ws (sym none))
    its (Some q) e some =
        let isk : IsMutex v.state m = omega (arith, nth_within v.queues m q e, ready.queues_len) in
        subst (IsQueue (wait_of v.state) (stored_at v) m)
        (ap (λ o. (unwrap_or {T = QueueView} o (record { waiters = []; room = 0 })).waiters) e ∙ sym (same_Some ws q.waiters some)) (ready.queues m isk)

    here : IsQueue (wait_of v.state) (stored_at v) m ws
    here = its (nth v.queues m) refl at
