-- One step: the reply to it, and the state after it.
use Rattle.std.specs.Prelude.{ℕ, ◌+◌, ◌-◌, Bool, nat_lt, ◌&&◌, List, [], ◌∷◌, length, Option, Some, None, if◌then◌else◌}
use Rattle.std.specs.List.{fold}
use Rattle.pim_base.specs.State.{State, owned, protocol_of, count_of, is_recursive, relocks, with_owner, with_count, with_wait, with_base, with_ceiling, queued}
use Rattle.pim_base.specs.Checks.{is_busy, first_checks, checks}
use Rattle.pim_base.specs.Queues.{first_of}
use Rattle.pim_base.specs.declared.steps.Op.{Op}
use Rattle.pim_base.specs.declared.steps.Step.{Step}
use Rattle.pim_base.specs.declared.steps.Refusal.{Refusal}
use Rattle.pim_base.specs.declared.steps.Reply.{Reply}
use Rattle.pim_base.specs.declared.steps.Waiter.{Waiter}

-- the first refusal whose test holds, else this answer
abbrev pub unless : List (Bool × Refusal) → Reply → Reply
unless [] answer = answer
unless (check ∷ checks) answer = if check.0 then Reply.Refused check.1 else unless checks answer

-- the reply to an unlock, by the first of the queue, which gets the mutex immediately. (POSIX.1-2017,
-- pthread_mutex_unlock)
abbrev pub handed : Option Waiter → Reply
handed None = Reply.Freed
handed (Some w) = Reply.Handed w.task

-- the owner keeps the mutex when it unlocks it, since it has locked it more than once. (POSIX.1-2017,
-- pthread_mutex_unlock: a recursive mutex is available when its lock count is zero)
abbrev pub is_kept : State → ℕ → Bool
is_kept S m = is_recursive (protocol_of S m) && nat_lt 1 (count_of S m)

-- the reply if nothing refuses the step
abbrev pub served : State → ℕ → Op → Reply
served S a (Op.Lock m) = if is_busy S a m then Reply.Queued else Reply.Granted
served S a (Op.Try m) = Reply.Granted
served S a (Op.Unlock m) = if is_kept S m then Reply.Kept else handed (first_of S m)
served S a Op.ReleaseAll = Reply.Released (length (owned S a))
served S a (Op.Cancel t) = Reply.Withdrawn
served S a (Op.SetBase t p) = Reply.Set
served S a (Op.SetCeiling m p) = Reply.Set

-- the answer to a known task that may ask
abbrev pub answer : State → ℕ → Op → Reply
answer S a op = unless (checks S a op) (served S a op)

-- the reply to the step
abbrev pub reply_of : State → Step → Reply
reply_of S step = unless (first_checks S step) (answer S step.actor step.op)

-- a owns m, or has locked it once more
abbrev pub granted : State → ℕ → ℕ → State
granted S a m = if relocks S a m then with_count S m (count_of S m + 1) else with_owner S m (Some a)

-- m goes to this waiter, which stops waiting, or is free
abbrev pub hand_over_to : State → ℕ → Option Waiter → State
hand_over_to S m None = with_owner S m None
hand_over_to S m (Some w) = with_wait (with_owner S m (Some w.task)) w.task None

-- m goes to the first of its queue, or is free
abbrev pub hand_over : State → ℕ → State
hand_over S m = hand_over_to S m (first_of S m)

-- the mutex that the operation names, else 0, which no mutex has as its number
abbrev pub mutex_of : Op → ℕ
mutex_of (Op.Lock m) = m
mutex_of (Op.Try m) = m
mutex_of (Op.Unlock m) = m
mutex_of Op.ReleaseAll = 0
mutex_of (Op.Cancel t) = 0
mutex_of (Op.SetBase t p) = 0
mutex_of (Op.SetCeiling m p) = m

-- the task that the operation is to change, else 0, which no task has as its number
abbrev pub target_of : Op → ℕ
target_of (Op.Lock m) = 0
target_of (Op.Try m) = 0
target_of (Op.Unlock m) = 0
target_of Op.ReleaseAll = 0
target_of (Op.Cancel t) = t
target_of (Op.SetBase t p) = t
target_of (Op.SetCeiling m p) = 0

-- the state with the base or the ceiling that the operation sets, if it sets one
abbrev pub with_setting : State → Op → State
with_setting S (Op.Lock m) = S
with_setting S (Op.Try m) = S
with_setting S (Op.Unlock m) = S
with_setting S Op.ReleaseAll = S
with_setting S (Op.Cancel t) = S
with_setting S (Op.SetBase t p) = with_base S t p
with_setting S (Op.SetCeiling m p) = with_ceiling S m p

-- what the operation of this actor does when it is given this reply
abbrev pub after_reply : State → ℕ → Op → Reply → State
after_reply S a op Reply.Granted = granted S a (mutex_of op)
after_reply S a op Reply.Queued = queued S a (mutex_of op)
after_reply S a op Reply.Kept = with_count S (mutex_of op) (count_of S (mutex_of op) - 1)
after_reply S a op Reply.Freed = hand_over S (mutex_of op)
after_reply S a op (Reply.Handed t) = hand_over S (mutex_of op)
after_reply S a op (Reply.Released k) = fold hand_over S (owned S a)
after_reply S a op Reply.Withdrawn = with_wait S (target_of op) None
after_reply S a op Reply.Set = with_setting S op
after_reply S a op (Reply.Refused r) = S

-- the state after the step
abbrev pub after : State → Step → State
after S step = after_reply S step.actor step.op (reply_of S step)
