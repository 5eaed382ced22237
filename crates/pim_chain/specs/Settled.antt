-- Stored priorities that agree with their neighbours, and what a visit changes.
use Rattle.std.specs.Prelude.{◌≡◌, ◌≤◌, ◌==◌, ℕ, List, length, Option, Some, None, if◌then◌else◌}
use Rattle.std.specs.List.{fold}
use Rattle.std.specs.Option.{option_and_then}
use Rattle.pim_base.specs.Counts.{differing}
use Rattle.pim_base.specs.Lists.{put, insert_by}
use Rattle.pim_base.specs.State.{State, IsTask, owned, wait_of, with_wait}
use Rattle.pim_base.specs.Chains.{heir, heir_of}
use Rattle.pim_base.specs.Priorities.{local_priority}
use Rattle.pim_base.specs.Queues.{precedes}
use Rattle.pim_base.specs.Steps.{hand_over}
use Rattle.pim_base.specs.declared.limits.TheConstants.{MAX_MUTEXES}
use Rattle.pim_base.specs.declared.steps.Wait.{Wait}
use Rattle.pim_queue.specs.QueueView.{QueueView}
use Rattle.pim_queue.specs.Waiters.{without, repositioned}
use Rattle.pim_chain.specs.Views.{View, Ready, stored_at, queue_at, first_prio, queue_in, put_queue}

-- each task, except perhaps the named one, has its local priority
abbrev pub SettledBut : State → (ℕ → ℕ) → Option ℕ → Type 0
SettledBut S stored except = (t : ℕ) → IsTask S t → (except ≡ Some t → ⊥) → stored t ≡ local_priority S stored t

-- if each task had its local priority before, each task except perhaps the named one still has it
abbrev pub Unsettles : View → View → Option ℕ → Type 0
Unsettles v w who = SettledBut v.state (stored_at v) None → SettledBut w.state (stored_at w) who

-- the queues are in order, and each task has its local priority
pub record Calm (v : View) : Type 0 where
  pub ready : Ready v
  pub settled : SettledBut v.state (stored_at v) None

-- the queues, with the task moved in the queue that it waits in
abbrev pub moved : List QueueView → Option Wait → ℕ → ℕ → List QueueView
moved queues None t p = queues
moved queues (Some w) t p = put_queue queues w.mutex (repositioned t p (queue_in queues w.mutex))

-- the task waits for the mutex, in its queue
abbrev pub joined : View → ℕ → Wait → View
joined v t w = record v {
  state = with_wait v.state t (Some w);
  queues =
      put_queue v.queues w.mutex (insert_by precedes (queue_at v w.mutex) (record { task = t; prio = stored_at v t; ticket = w.ticket }));
}

-- the task stopped waiting for the mutex, and left its queue
abbrev pub left : View → ℕ → ℕ → View
left v t m = record v {
  state = with_wait v.state t None;
  queues = put_queue v.queues m (without t (queue_at v m));
}

-- another stored priority for the task
abbrev pub restored : View → ℕ → ℕ → View
restored v t p = record v { stored = put v.stored t p; queues = moved v.queues (wait_of v.state t) t p }

-- the task that is visited after one that waits for the mutex: the heir, if the first waiter's priority has changed
abbrev pub onward_from : ℕ → View → Wait → Option ℕ
onward_from before w u = if before == first_prio (queue_at w u.mutex) then None else heir_of w.state u.mutex

-- the task that is visited after x
abbrev pub next_of : View → View → ℕ → Option ℕ
next_of v w x = option_and_then (λ (u : Wait). onward_from (first_prio (queue_at v u.mutex)) w u) (wait_of v.state x)

-- what holds after the visit of x, and which task is next
pub record Visited (v w : View) (x : ℕ) (next : Option ℕ) : Type 0 where
  pub state : w.state ≡ v.state
  pub settled : SettledBut w.state (stored_at w) next
  pub others : (u : ℕ) → (u ≡ x → ⊥) → stored_at w u ≡ stored_at v u
  pub onward : (y : ℕ) → next ≡ Some y → (heir v.state x ≡ Some y) × (stored_at w x ≡ stored_at v x → ⊥)

-- how many tasks have another stored priority
abbrev pub changed : View → View → ℕ
changed v w = differing (length v.state.base) (stored_at v) (stored_at w)

-- x, which waits for nothing, gets its local priority, and nothing else changes
pub record SettledIdle (v w : View) (x : ℕ) : Type 0 where
  pub state : w.state ≡ v.state
  pub queues : w.queues ≡ v.queues
  pub local : stored_at w x ≡ local_priority v.state (stored_at v) x
  pub others : (u : ℕ) → (u ≡ x → ⊥) → stored_at w u ≡ stored_at v u

-- the task has handed over its n mutexes; it alone may have another priority than its local one
pub record HandedAll (v w : View) (t n : ℕ) : Type 0 where
  pub count : n ≡ length (owned v.state t)
  pub few : n ≤ MAX_MUTEXES
  pub state : w.state ≡ fold hand_over v.state (owned v.state t)
  pub tasks : length w.state.base ≡ length v.state.base
  pub idle : heir w.state t ≡ None
  pub settled : SettledBut w.state (stored_at w) (Some t)
  pub none : n ≡ 0 → SettledBut w.state (stored_at w) None
