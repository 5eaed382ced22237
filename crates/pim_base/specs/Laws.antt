-- What the definitions have to do with one another.
use Rattle.std.specs.Prelude.{◌≡◌, ◌≤◌, ℕ, false, [], ◌↔◌, IsTrue, Some, None, All, AllPairs, Contains}
use Rattle.pim_base.specs.Lists.{contains}
use Rattle.std.specs.Option.{option_map}
use Rattle.pim_base.specs.State.{State, IsState, IsTask, base_of, protocol_of, owner_of, wait_of, owned, relocks, with_wait, with_protocol}
use Rattle.pim_base.specs.Chains.{HasCycle, closes_cycle, heir, inherit_chain}
use Rattle.pim_base.specs.Priorities.{ceiling, own_priority, local_priority, effective_priority}
use Rattle.pim_base.specs.Queues.{Precedes, waiter_of, queue_of}
use Rattle.pim_base.specs.Reasons.{reason_of}
use Rattle.pim_base.specs.Steps.{after}
pub use Rattle.pim_base.specs.Steady.{IsSound}
use Rattle.pim_base.specs.Steady.{HasOwnTickets, IsSteady}
use Rattle.pim_base.specs.declared.steps.Protocol.{Protocol}
use Rattle.pim_base.specs.declared.steps.Reason.{Reason}
use Rattle.pim_base.specs.declared.steps.Step.{Step}
use Rattle.pim_base.specs.declared.steps.Wait.{Wait}
use Rattle.pim_base.specs.declared.steps.Waiter.{Waiter}

-- In a state without a cycle of waits, the wait of a task that doesn't wait yet makes one exactly if `closes_cycle`
-- says so. This holds of each request but a relock, which doesn't wait. (POSIX.1-2017, pthread_mutex_lock: EDEADLK)
abbrev pub ClosingLaw : Type 0
ClosingLaw =
    (S : State) (t m ticket : ℕ)
    → IsState S
    → ¬ HasCycle S
    → IsTask S t
    → wait_of S t ≡ None
    → relocks S t m ≡ false
    → IsTrue (closes_cycle S t m) ↔ HasCycle (with_wait S t (Some (record { mutex = m; ticket = ticket })))

-- Whatever the step, there is no cycle of waits after it if there was none before.
abbrev pub NoCycleLaw : Type 0
NoCycleLaw = (S : State) (step : Step) → IsSound S → IsSound (after S step)

-- the kind of a protocol, whatever its ceiling, by a number of its own
abbrev pub kind : Protocol → ℕ
kind Protocol.None = 0
kind Protocol.Inherit = 1
kind (Protocol.Protect c) = 2
kind Protocol.InheritRecursive = 3

-- Whatever the step, each mutex is of the kind that it was: a step may change a ceiling, and nothing else of a
-- protocol.
abbrev pub KindLaw : Type 0
KindLaw = (S : State) (step : Step) (m : ℕ) → kind (protocol_of (after S step) m) ≡ kind (protocol_of S m)

-- Without a cycle of waits, priorities that agree with their neighbours are the effective ones, and the other way
-- round. (It is why a walk along one chain may stop where nothing changes: the Linux rt-mutex design.)
abbrev pub StoredLaw : Type 0
StoredLaw =
    (S : State) (stored : ℕ → ℕ)
    → IsSound S
    → ((t : ℕ) → IsTask S t → stored t ≡ local_priority S stored t) ↔ ((t : ℕ) → IsTask S t → stored t ≡ effective_priority S t)

-- The effective priority of t is at least its own, and at least that of each task whose inherit chain leads to t; and
-- one of these tasks has it as its own priority.
pub record IsLeastBound (S : State) (t : ℕ) : Type 0 where
  pub itself : own_priority S t ≤ effective_priority S t
  pub others : (u : ℕ) → IsTask S u → IsTrue (contains (inherit_chain S u) t) → own_priority S u ≤ effective_priority S t
  pub reached : (u : ℕ) × IsTask S u × IsTrue (contains (inherit_chain S u) t) × (own_priority S u ≡ effective_priority S t)

abbrev pub EffectiveLaw : Type 0
EffectiveLaw = (S : State) (t : ℕ) → IsTask S t → IsLeastBound S t

-- Without a cycle of waits, no task on an inherit chain executes below the chain's first task.
-- (POSIX.1-2017, pthread_mutexattr_getprotocol: the recursive clause of PTHREAD_PRIO_INHERIT)
abbrev pub RisingLaw : Type 0
RisingLaw =
    (S : State) (u t : ℕ)
    → IsSound S
    → IsTask S u
    → IsTask S t
    → IsTrue (contains (inherit_chain S u) t)
    → effective_priority S u ≤ effective_priority S t

-- A task that owns nothing executes at its base.
abbrev pub BaseLaw : Type 0
BaseLaw = (S : State) (t : ℕ) → IsState S → IsTask S t → owned S t ≡ [] → effective_priority S t ≡ base_of S t

-- The queue of m has the tasks that wait for m and no others, and each precedes all later ones, so that each is there
-- once.
pub record IsQueueOfWaiters (S : State) (m : ℕ) : Type 0 where
  pub waiters : All (λ w. IsTask S w.task × (waiter_of S m w.task ≡ Some w)) (queue_of S m)
  pub all : (t : ℕ) (w : Waiter) → IsTask S t → waiter_of S m t ≡ Some w → Contains (queue_of S m) w
  pub in_order : AllPairs Precedes (queue_of S m)

-- This holds of each state in which each waiting task has a ticket of its own.
abbrev pub QueueLaw : Type 0
QueueLaw = (S : State) (m : ℕ) → HasOwnTickets S → IsQueueOfWaiters S m

-- all mutexes are PRIO_NONE
abbrev pub IsNoneOnly : State → Type 0
IsNoneOnly S = (m : ℕ) → protocol_of S m ≡ Protocol.None

-- POSIX.1-2017, PRIO_NONE: owning the mutex doesn't affect the owner's priority. If all mutexes are PRIO_NONE, every
-- task has its base priority, whatever is owned and waited for.
abbrev pub NoneLaw : Type 0
NoneLaw = (S : State) (t : ℕ) → IsNoneOnly S → effective_priority S t ≡ base_of S t

-- Another protocol of a mutex that nobody owns changes no priority, whatever is owned and waited for.
abbrev pub ProtocolLaw : Type 0
ProtocolLaw =
    (S : State) (m t : ℕ) (p : Protocol)
    → owner_of S m ≡ None
    → effective_priority (with_protocol S m p) t ≡ effective_priority S t

-- What a reason says of t's priority: it is t's base; or the ceiling of m, which t owns; or that of u, which waits
-- for the INHERIT mutex m of t.
abbrev pub Gives : State → ℕ → Reason → Type 0
Gives S t Reason.Base = effective_priority S t ≡ base_of S t
Gives S t (Reason.Ceiling m) = (owner_of S m ≡ Some t) × (ceiling (protocol_of S m) ≡ Some (effective_priority S t))
Gives S t (Reason.Waiter u m) =
    (heir S u ≡ Some t)
    × (option_map (λ (w : Wait). w.mutex) (wait_of S u) ≡ Some m)
    × (effective_priority S u ≡ effective_priority S t)

-- The reason of a known task is true in each state that a run from the start can reach.
abbrev pub ReasonLaw : Type 0
ReasonLaw = (S : State) (t : ℕ) → IsSteady S → IsTask S t → Gives S t (reason_of S t)
