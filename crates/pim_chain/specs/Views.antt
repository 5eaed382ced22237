-- What the tables hold, and what always holds of it.
use Rattle.std.specs.Prelude.{◌≡◌, ◌≤◌, ℕ, Bool, true, false, ◌==◌, List, [], Option, Some, length, replicate, unwrap_or}
use Rattle.std.specs.List.{list_any, AllByRecursion}
use Rattle.std.specs.Option.{option_map_or}
use Rattle.pim_base.specs.Lists.{nth, put, first_item}
use Rattle.pim_base.specs.State.{State, start, IsTask, IsMutex, wait_of, owner_of}
use Rattle.pim_base.specs.Laws.{IsSound}
use Rattle.pim_base.specs.declared.limits.TheConstants.{MAX_TASKS, MAX_MUTEXES}
use Rattle.pim_base.specs.declared.steps.Protocol.{Protocol}
use Rattle.pim_base.specs.declared.steps.Wait.{Wait}
use Rattle.pim_base.specs.declared.steps.Waiter.{Waiter}
use Rattle.pim_queue.specs.QueueView.{QueueView, with_waiters}
use Rattle.pim_queue.specs.Waiters.{is_of, IsOrdered}

-- the state, the stored priorities, and the queue of each mutex
pub record View : Type 0 where
  pub state : State
  pub stored : List ℕ
  pub queues : List QueueView

-- nothing is owned, nobody waits, each stored priority is the base, and each queue has room for all tasks
abbrev pub fresh : List ℕ → List Protocol → View
fresh bases protocols = record {
  state = start bases protocols 1;
  stored = bases;
  queues = replicate (length protocols) (record { waiters = []; room = length bases });
}

abbrev pub with_state : View → State → View
with_state v S = record v { state = S }

abbrev pub stored_in : List ℕ → ℕ → ℕ
stored_in stored t = unwrap_or (nth stored t) 0

abbrev pub stored_at : View → ℕ → ℕ
stored_at v t = stored_in v.stored t

abbrev pub view_in : List QueueView → ℕ → QueueView
view_in queues m = unwrap_or (nth queues m) (record { waiters = []; room = 0 })

abbrev pub queue_in : List QueueView → ℕ → List Waiter
queue_in queues m = (view_in queues m).waiters

abbrev pub queue_at : View → ℕ → List Waiter
queue_at v m = queue_in v.queues m

-- the same queues with another queue at this mutex
abbrev pub put_queue : List QueueView → ℕ → List Waiter → List QueueView
put_queue queues m ws = put queues m (with_waiters (view_in queues m) ws)

-- the priority of the first waiter, or 0 if nobody waits
abbrev pub first_prio : List Waiter → ℕ
first_prio ws = option_map_or (λ (w : Waiter). w.prio) (first_item ws) 0

abbrev pub waits_for : (ℕ → Option Wait) → ℕ → ℕ → Bool
waits_for wait m t = option_map_or (λ (w : Wait). w.mutex == m) (wait t) false

-- the task as a waiter with this ticket
abbrev pub waiter_at : View → ℕ → ℕ → Waiter
waiter_at v t k = record { task = t; prio = stored_at v t; ticket = k }

-- a waiter has the ticket of its task's wait for the mutex, and the task's stored priority
pub record Shows (wait : ℕ → Option Wait) (stored : ℕ → ℕ) (m : ℕ) (w : Waiter) : Type 0 where
  pub waits : wait w.task ≡ Some (record { mutex = m; ticket = w.ticket })
  pub prio : w.prio ≡ stored w.task

-- the list has all who wait for the mutex, and nobody else, in order
pub record IsQueue (wait : ℕ → Option Wait) (stored : ℕ → ℕ) (m : ℕ) (ws : List Waiter) : Type 0 where
  pub ordered : IsOrdered ws
  pub sound : AllByRecursion (Shows wait stored m) ws
  pub complete : (t : ℕ) → waits_for wait m t ≡ true → list_any (is_of t) ws ≡ true

-- owners are known tasks, tasks wait for known mutexes, and no two tasks wait for a mutex with the same ticket
pub record WaitsFit (S : State) : Type 0 where
  pub owners : (m t : ℕ) → owner_of S m ≡ Some t → IsTask S t
  pub mutexes : (t : ℕ) (w : Wait) → wait_of S t ≡ Some w → IsMutex S w.mutex
  pub tickets : (t u : ℕ) (w : Wait) → wait_of S t ≡ Some w → wait_of S u ≡ Some w → t ≡ u

-- there is no cycle of waits, the lists fit together, and each queue is in order by the stored priorities
pub record Ready (v : View) : Type 0 where
  pub sound : IsSound v.state
  pub few_tasks : length v.state.base ≤ MAX_TASKS
  pub few_mutexes : length v.state.protocol ≤ MAX_MUTEXES
  pub stored_len : length v.stored ≡ length v.state.base
  pub queues_len : length v.queues ≡ length v.state.protocol
  pub waits : WaitsFit v.state
  pub queues : (m : ℕ) → IsMutex v.state m → IsQueue (wait_of v.state) (stored_at v) m (queue_at v m)
  pub room : (m : ℕ) → IsMutex v.state m → length v.state.base ≤ (view_in v.queues m).room
