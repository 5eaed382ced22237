-- The chains 'a task, the owner of the mutex that it waits for, and so on', and cycles of waits. (The Linux rt-mutex
-- design: the priority inheritance chain)
use Rattle.std.specs.Prelude.{ℕ, zero, suc, Bool, false, not, ◌&&◌, List, [], ◌∷◌, length, Option, None, drop, IsTrue}
use Rattle.std.specs.Option.{option_and_then, option_map_or}
use Rattle.pim_base.specs.Lists.{contains}
use Rattle.pim_base.specs.State.{State, owner_of, wait_of, protocol_of, relocks}
use Rattle.pim_base.specs.declared.steps.Protocol.{Protocol}

-- t, and then each task that at most n hops lead to from it
abbrev pub chain : (ℕ → Option ℕ) → ℕ → ℕ → List ℕ
chain hop zero t = t ∷ []
chain hop (suc n) t = t ∷ option_map_or (chain hop n) (hop t) []

-- whom the task waits for: the owner of its mutex
abbrev pub blocker : State → ℕ → Option ℕ
blocker S t = option_and_then (λ w. owner_of S w.mutex) (wait_of S t)

-- who gets the waiters' priority: the owner, if the mutex is an INHERIT one, recursive or not. (POSIX.1-2017,
-- pthread_mutexattr_getprotocol)
abbrev pub heir_in : Protocol → Option ℕ → Option ℕ
heir_in Protocol.None owner = None
heir_in Protocol.Inherit owner = owner
heir_in Protocol.InheritRecursive owner = owner
heir_in (Protocol.Protect c) owner = None

-- who gets the priority of m's waiters
abbrev pub heir_of : State → ℕ → Option ℕ
heir_of S m = heir_in (protocol_of S m) (owner_of S m)

-- who inherits from the task: the owner of the INHERIT mutex that it waits for
abbrev pub heir : State → ℕ → Option ℕ
heir S t = option_and_then (λ w. heir_of S w.mutex) (wait_of S t)

-- t, whom t waits for, and so on, through mutexes of any protocol
abbrev pub waits_chain : State → ℕ → List ℕ
waits_chain S t = chain (blocker S) (length S.base) t

-- t, who inherits from t, and so on, through INHERIT mutexes alone. (POSIX.1-2017, pthread_mutexattr_getprotocol: the
-- recursive clause of PTHREAD_PRIO_INHERIT)
abbrev pub inherit_chain : State → ℕ → List ℕ
inherit_chain S t = chain (heir S) (length S.base) t

-- some task occurs again on its own waits chain: a deadlock
abbrev pub HasCycle : State → Type 0
HasCycle S = (t : ℕ) × IsTrue (contains (drop 1 (waits_chain S t)) t)

-- whether a wait of t for m would lead back to t: m is owned, and t is on its owner's waits chain, the owner included.
-- (The Linux rt-mutex design: deadlock detection on the walk)
abbrev pub leads_back : State → ℕ → ℕ → Bool
leads_back S t m = option_map_or (λ u. contains (waits_chain S u) t) (owner_of S m) false

-- whether the request of t for m would close a cycle: its wait would lead back to t, and it is no relock, which doesn't
-- wait. (POSIX.1-2017, pthread_mutex_lock: EDEADLK)
abbrev pub closes_cycle : State → ℕ → ℕ → Bool
closes_cycle S t m = not (relocks S t m) && leads_back S t m
