-- What refuses a step: the tests, and their order. (POSIX.1-2017: the errors of pthread_mutex_lock,
-- pthread_mutex_trylock, pthread_mutex_unlock, pthread_setschedprio and pthread_mutex_setprioceiling)
use Rattle.std.specs.Prelude.{ℕ, ◌+◌, ◌==◌, nat_lt, nat_le, ◌&&◌, ◌||◌, not, is_some, is_none, Bool, false, List, [], ◌∷◌, length}
use Rattle.std.specs.Option.{option_map_or}
use Rattle.pim_base.specs.Lists.{holds}
use Rattle.pim_base.specs.State.{State, base_of, owner_of, wait_of, protocol_of, count_of, relocks}
use Rattle.pim_base.specs.Chains.{closes_cycle}
use Rattle.pim_base.specs.Priorities.{ceiling}
use Rattle.pim_base.specs.declared.limits.TheConstants.{LAST_TICKET, MAX_COUNT}
use Rattle.pim_base.specs.declared.steps.Op.{Op}
use Rattle.pim_base.specs.declared.steps.Step.{Step}
use Rattle.pim_base.specs.declared.steps.Refusal.{Refusal}

-- no task has this number
abbrev pub unknown_task : State → ℕ → Bool
unknown_task S t = t == 0 || nat_lt (length S.base) t

-- no mutex has this number
abbrev pub unknown_mutex : State → ℕ → Bool
unknown_mutex S m = m == 0 || nat_lt (length S.protocol) m

-- the task waits
abbrev pub is_waiting : State → ℕ → Bool
is_waiting S t = is_some (wait_of S t)

-- the mutex has an owner
abbrev pub is_owned : State → ℕ → Bool
is_owned S m = is_some (owner_of S m)

-- t can't have the mutex now: it is owned, and t doesn't lock it once more
abbrev pub is_busy : State → ℕ → ℕ → Bool
is_busy S t m = is_owned S m && not (relocks S t m)

-- t would lock the mutex once more than can be counted. (pthread_mutex_lock, EAGAIN)
abbrev pub locked_too_often : State → ℕ → ℕ → Bool
locked_too_often S t m = relocks S t m && count_of S m == MAX_COUNT

-- m is a PROTECT mutex, and t's base is above its ceiling. (pthread_mutex_lock, EINVAL: the caller's priority is above
-- the ceiling; which priority that is, POSIX leaves open, and here it is the base)
abbrev pub above_ceiling : State → ℕ → ℕ → Bool
above_ceiling S t m = option_map_or (λ c. nat_lt c (base_of S t)) (ceiling (protocol_of S m)) false

-- a task other than t owns the mutex
abbrev pub owned_by_another : State → ℕ → ℕ → Bool
owned_by_another S t m = option_map_or (λ u. not (u == t)) (owner_of S m) false

-- m isn't a PROTECT mutex, and so has no ceiling
abbrev pub not_protect : State → ℕ → Bool
not_protect S m = is_none (ceiling (protocol_of S m))

-- the number is no priority: it isn't 1 to 99
abbrev pub no_priority : ℕ → Bool
no_priority p = not (nat_le 1 p && nat_le p 99)

-- no ticket is left: the last one has been given out
abbrev pub no_tickets : State → Bool
no_tickets S = S.next == LAST_TICKET + 1

-- the step is the withdrawal of the actor itself
abbrev pub withdraws_itself : ℕ → Op → Bool
withdraws_itself a (Op.Lock m) = false
withdraws_itself a (Op.Try m) = false
withdraws_itself a (Op.Unlock m) = false
withdraws_itself a Op.ReleaseAll = false
withdraws_itself a (Op.Cancel t) = t == a
withdraws_itself a (Op.SetBase t p) = false
withdraws_itself a (Op.SetCeiling m p) = false

-- what refuses any step, in order
abbrev pub first_checks : State → Step → List (Bool × Refusal)
first_checks S step =
    (unknown_task S step.actor, Refusal.NoTask)
    ∷ (is_waiting S step.actor && not (withdraws_itself step.actor step.op), Refusal.Waiting)
    ∷ []

-- what refuses the step of a known task that may ask, in order
abbrev pub checks : State → ℕ → Op → List (Bool × Refusal)
checks S a (Op.Lock m) =
    (unknown_mutex S m, Refusal.NoMutex)
    ∷ (locked_too_often S a m, Refusal.Again)
    ∷ (closes_cycle S a m, Refusal.Deadlock)
    ∷ (above_ceiling S a m, Refusal.Ceiling)
    ∷ (is_busy S a m && no_tickets S, Refusal.Tickets)
    ∷ []
checks S a (Op.Try m) =
    (unknown_mutex S m, Refusal.NoMutex)
    ∷ (locked_too_often S a m, Refusal.Again)
    ∷ (above_ceiling S a m, Refusal.Ceiling)
    ∷ (is_busy S a m, Refusal.Busy)
    ∷ []
checks S a (Op.Unlock m) =
    (unknown_mutex S m, Refusal.NoMutex)
    ∷ (not (holds (owner_of S m) a), Refusal.NotOwner)
    ∷ []
checks S a Op.ReleaseAll = []
checks S a (Op.Cancel t) =
    (unknown_task S t, Refusal.NoTask)
    ∷ (not (is_waiting S t), Refusal.NotWaiting)
    ∷ []
checks S a (Op.SetBase t p) =
    (unknown_task S t, Refusal.NoTask)
    ∷ (no_priority p, Refusal.Priority)
    ∷ []
checks S a (Op.SetCeiling m p) =
    (unknown_mutex S m, Refusal.NoMutex)
    ∷ (not_protect S m, Refusal.NotProtect)
    ∷ (no_priority p, Refusal.Priority)
    ∷ (owned_by_another S a m, Refusal.Busy)
    ∷ []
