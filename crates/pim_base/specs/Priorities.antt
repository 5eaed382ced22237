-- The priorities at which tasks execute. (POSIX.1-2017, pthread_mutexattr_getprotocol)
use Rattle.std.specs.Prelude.{ℕ, List, ◌∷◌, map, Option, Some, None, unwrap_or}
use Rattle.std.specs.List.{filter}
use Rattle.pim_base.specs.Lists.{contains, greatest, holds}
use Rattle.pim_base.specs.State.{State, task_numbers, base_of, protocol_of, owned}
use Rattle.pim_base.specs.Chains.{heir, inherit_chain}
use Rattle.pim_base.specs.declared.steps.Protocol.{Protocol}

-- the ceiling of a PROTECT mutex
abbrev pub ceiling : Protocol → Option ℕ
ceiling Protocol.None = None
ceiling Protocol.Inherit = None
ceiling Protocol.InheritRecursive = None
ceiling (Protocol.Protect c) = Some c

-- the ceiling of the mutex, or 0
abbrev pub ceiling_of : State → ℕ → ℕ
ceiling_of S m = unwrap_or (ceiling (protocol_of S m)) 0

-- the task's base or the highest ceiling of the PROTECT mutexes that it owns, whichever is the higher, whether or not
-- a task waits for these. (PTHREAD_PRIO_PROTECT)
abbrev pub own_priority : State → ℕ → ℕ
own_priority S t = greatest (base_of S t ∷ map (ceiling_of S) (owned S t))

-- the tasks from which t inherits: t is on their inherit chain, as it is on its own
abbrev pub donors_of : State → ℕ → List ℕ
donors_of S t = filter (λ u. contains (inherit_chain S u) t) (task_numbers S)

-- the priority at which t executes: the greatest own priority among the tasks from which it inherits.
-- (PTHREAD_PRIO_INHERIT; Sha, Rajkumar and Lehoczky 1990: priority inheritance is transitive)
abbrev pub effective_priority : State → ℕ → ℕ
effective_priority S t = greatest (map (own_priority S) (donors_of S t))

-- what t's own priority and the others' priorities in this map give it: the greatest of its own and those of the tasks
-- that wait for its INHERIT mutexes. It alone is given a map: it says what one visit of a walk computes.
abbrev pub local_priority : State → (ℕ → ℕ) → ℕ → ℕ
local_priority S stored t = greatest (own_priority S t ∷ map stored (filter (λ u. holds (heir S u) t) (task_numbers S)))
