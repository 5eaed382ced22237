-- The state: what was declared, what is owned and what is waited for. (POSIX.1-2017: the priority of a thread; the
-- protocol, ceiling and owner of a mutex; the threads that wait for it)
use Rattle.std.specs.Prelude.{◌≡◌, ◌≤◌, ◌+◌, ℕ, Bool, true, false, ◌&&◌, List, length, Option, Some, None, unwrap_or, replicate}
use Rattle.std.specs.List.{filter}
use Rattle.pim_base.specs.Lists.{nth, put, numbers, holds}
use Rattle.pim_base.specs.declared.steps.Protocol.{Protocol}
use Rattle.pim_base.specs.declared.steps.Wait.{Wait}

-- A list of tasks begins with task 1, and a list of mutexes with mutex 1. The state has no effective priorities and no
-- queues: they are computed from it. `count` says how often the owner of each mutex has locked it and not yet unlocked
-- it, and `next` is the next ticket.
pub record State : Type 0 where
  pub base : List ℕ
  pub protocol : List Protocol
  pub owner : List (Option ℕ)
  pub count : List ℕ
  pub wait : List (Option Wait)
  pub next : ℕ

-- the state with these bases and protocols in which no mutex is owned and no task waits
abbrev pub start : List ℕ → List Protocol → ℕ → State
start bases protocols next = record {
  base = bases;
  protocol = protocols;
  owner = replicate (length protocols) None;
  count = replicate (length protocols) 0;
  wait = replicate (length bases) None;
  next = next;
}

-- the numbers of the tasks
abbrev pub task_numbers : State → List ℕ
task_numbers S = numbers (length S.base)

-- the numbers of the mutexes
abbrev pub mutex_numbers : State → List ℕ
mutex_numbers S = numbers (length S.protocol)

-- the base of a task, and 0 of an unknown one
abbrev pub base_of : State → ℕ → ℕ
base_of S t = unwrap_or (nth S.base t) 0

-- the protocol of a mutex, and NONE of an unknown one
abbrev pub protocol_of : State → ℕ → Protocol
protocol_of S m = unwrap_or (nth S.protocol m) Protocol.None

-- the owner of a mutex, if it has one
abbrev pub owner_of : State → ℕ → Option ℕ
owner_of S m = unwrap_or (nth S.owner m) None

-- how often its owner has locked a mutex and not yet unlocked it, and 0 of a free or an unknown one
abbrev pub count_of : State → ℕ → ℕ
count_of S m = unwrap_or (nth S.count m) 0

-- what a task waits for, if it waits
abbrev pub wait_of : State → ℕ → Option Wait
wait_of S t = unwrap_or (nth S.wait t) None

-- its owner may lock the mutex again, and has to unlock it as often. (POSIX.1-2017, PTHREAD_MUTEX_RECURSIVE)
abbrev pub is_recursive : Protocol → Bool
is_recursive Protocol.None = false
is_recursive Protocol.Inherit = false
is_recursive Protocol.InheritRecursive = true
is_recursive (Protocol.Protect c) = false

-- t locks a mutex that it owns once more, which a recursive one allows. (POSIX.1-2017, pthread_mutex_lock: relock)
abbrev pub relocks : State → ℕ → ℕ → Bool
relocks S t m = is_recursive (protocol_of S m) && holds (owner_of S m) t

-- the mutexes that the task owns, in ascending order
abbrev pub owned : State → ℕ → List ℕ
owned S t = filter (λ m. holds (owner_of S m) t) (mutex_numbers S)

-- each task has an entry among the waits, and each mutex among the owners and the counts
pub record IsState (S : State) : Type 0 where
  pub waits : length S.wait ≡ length S.base
  pub owners : length S.owner ≡ length S.protocol
  pub counts : length S.count ≡ length S.protocol

-- the task has one of the numbers 1 to N
abbrev pub IsTask : State → ℕ → Type 0
IsTask S t = (1 ≤ t) × (t ≤ length S.base)

-- the mutex has one of the numbers 1 to their count
abbrev pub IsMutex : State → ℕ → Type 0
IsMutex S m = (1 ≤ m) × (m ≤ length S.protocol)

-- The changes of one fact, at a known number. At an unknown number nothing changes.

-- the count of a mutex that has just been granted or freed: a new owner has locked it once, and nobody a free one
abbrev pub first_count : Option ℕ → ℕ
first_count None = 0
first_count (Some t) = 1

-- m has this new owner, or none, and the count that fits it
abbrev pub with_owner : State → ℕ → Option ℕ → State
with_owner S m o = record S { owner = put S.owner m o; count = put S.count m (first_count o) }

-- its owner has locked m this often (POSIX.1-2017, pthread_mutex_lock: the lock count)
abbrev pub with_count : State → ℕ → ℕ → State
with_count S m k = record S { count = put S.count m k }

-- t has this wait, or none
abbrev pub with_wait : State → ℕ → Option Wait → State
with_wait S t w = record S { wait = put S.wait t w }

-- t has this base (POSIX.1-2017, pthread_setschedprio)
abbrev pub with_base : State → ℕ → ℕ → State
with_base S t p = record S { base = put S.base t p }

-- m has this protocol (POSIX.1-2017, pthread_mutex_destroy: a destroyed mutex can be initialized anew)
abbrev pub with_protocol : State → ℕ → Protocol → State
with_protocol S m p = record S { protocol = put S.protocol m p }

-- m is a PROTECT mutex with this ceiling (POSIX.1-2017, pthread_mutex_setprioceiling)
abbrev pub with_ceiling : State → ℕ → ℕ → State
with_ceiling S m c = with_protocol S m (Protocol.Protect c)

-- t waits for m with the next ticket, and the next ticket is one more
abbrev pub queued : State → ℕ → ℕ → State
queued S t m = record S {
  wait = put S.wait t (Some (record { mutex = m; ticket = S.next }));
  next = S.next + 1;
}
