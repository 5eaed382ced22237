-- Runs whose replies, priorities and reasons were worked out by hand, computed by the definitions alone. Nothing
-- cites these theorems: they are checked with the crate, and show that the definitions say what is meant.
use Rattle.std.specs.Prelude.{◌≡◌, ℕ, List, [], ◌∷◌, ◌++◌, replicate, Option, Some, None, refl, ◌==◌, if◌then◌else◌}
use Rattle.std.specs.List.{filter_map}
use Rattle.pim_base.specs.State.{State, start, task_numbers}
use Rattle.pim_base.specs.Priorities.{effective_priority}
use Rattle.pim_base.specs.Steps.{reply_of, after}
use Rattle.pim_base.specs.Reasons.{reason_of}
use Rattle.pim_base.specs.declared.limits.TheConstants.{LAST_TICKET}
use Rattle.pim_base.specs.declared.steps.Protocol.{Protocol}
use Rattle.pim_base.specs.declared.steps.Op.{Op}
use Rattle.pim_base.specs.declared.steps.Op.TheVariants.{Lock, Unlock, Try, Cancel, SetBase, SetCeiling, ReleaseAll}
use Rattle.pim_base.specs.declared.steps.Step.{Step}
use Rattle.pim_base.specs.declared.steps.Refusal.{Refusal}
use Rattle.pim_base.specs.declared.steps.Reply.{Reply}
use Rattle.pim_base.specs.declared.steps.Reply.TheVariants.{Granted, Queued, Freed, Handed, Released, Withdrawn, Set, Kept, Refused}
use Rattle.pim_base.specs.declared.steps.Reason.{Reason}
use Rattle.pim_base.specs.declared.steps.Reason.TheVariants.{Base, Ceiling, Waiter}

-- a line of a report: a reply, or a task that changed, with its priority and the reason
data Line : Type 0 where
  says : Reply → Line
  at : ℕ → ℕ → Reason → Line

-- the line of a task whose effective priority is another
abbrev changed_line : State → State → ℕ → Option Line
changed_line S S' t = if effective_priority S t == effective_priority S' t then None else Some (at t (effective_priority S' t) (reason_of S' t))

-- the replies to the steps, each with the tasks that it changed
abbrev report : State → List (ℕ × Op) → List Line
report S [] = []
report S (x ∷ xs) =
    let step : Step = record { actor = x.0; op = x.1 } in
    let S' : State = after S step in
    (says (reply_of S step) ∷ filter_map (changed_line S S') (task_numbers S)) ++ report S' xs

abbrev inherit : Protocol
inherit = Protocol.Inherit

abbrev recursive : Protocol
recursive = Protocol.InheritRecursive

abbrev none : Protocol
none = Protocol.None

abbrev protect : ℕ → Protocol
protect c = Protocol.Protect c

boost_and_its_end :
    report (start (10 ∷ 50 ∷ 90 ∷ []) (inherit ∷ []) 1) ((1, Lock 1) ∷ (3, Lock 1) ∷ (1, Unlock 1) ∷ [])
    ≡ says Granted ∷ says Queued ∷ at 1 90 (Waiter 3 1) ∷ says (Handed 3) ∷ at 1 10 Base ∷ []
boost_and_its_end = refl

-- tasks 1 to 3 for a chain, and two more that wait for its end
abbrev four_and_one : State
four_and_one = start (10 ∷ 20 ∷ 30 ∷ 90 ∷ 40 ∷ []) (inherit ∷ inherit ∷ inherit ∷ []) 1

-- task 2 waits for 1, 3 for 2, and 4 for 3
abbrev chain_of_three : List (ℕ × Op)
chain_of_three = (1, Lock 1) ∷ (2, Lock 2) ∷ (3, Lock 3) ∷ (2, Lock 1) ∷ (3, Lock 2) ∷ (4, Lock 3) ∷ []

-- each boost goes down to task 1
abbrev boosted_chain : List Line
boosted_chain =
    says Granted ∷ says Granted ∷ says Granted
    ∷ says Queued ∷ at 1 20 (Waiter 2 1)
    ∷ says Queued ∷ at 1 30 (Waiter 2 1) ∷ at 2 30 (Waiter 3 2)
    ∷ says Queued ∷ at 1 90 (Waiter 2 1) ∷ at 2 90 (Waiter 3 2) ∷ at 3 90 (Waiter 4 3)
    ∷ []

boost_through_a_chain_of_three : report four_and_one chain_of_three ≡ boosted_chain
boost_through_a_chain_of_three = refl

lower_waiter_behind_changes_nothing : report four_and_one (chain_of_three ++ (5, Lock 3) ∷ []) ≡ boosted_chain ++ says Queued ∷ []
lower_waiter_behind_changes_nothing = refl

deadlock_of_two_and_of_an_owner :
    report (start (10 ∷ 20 ∷ []) (inherit ∷ inherit ∷ []) 1)
    ((1, Lock 1) ∷ (2, Lock 2) ∷ (2, Lock 1) ∷ (1, Lock 2) ∷ (1, Lock 1) ∷ [])
    ≡ says Granted ∷ says Granted ∷ says Queued ∷ at 1 20 (Waiter 2 1)
    ∷ says (Refused Refusal.Deadlock) ∷ says (Refused Refusal.Deadlock) ∷ []
deadlock_of_two_and_of_an_owner = refl

no_boost_through_a_protect_mutex :
    report (start (20 ∷ 40 ∷ 90 ∷ []) (protect 50 ∷ inherit ∷ []) 1)
    ((1, Lock 1) ∷ (2, Lock 2) ∷ (2, Lock 1) ∷ (3, Lock 2) ∷ (1, Unlock 1) ∷ [])
    ≡ says Granted ∷ at 1 50 (Ceiling 1) ∷ says Granted ∷ says Queued
    ∷ says Queued ∷ at 2 90 (Waiter 3 2) ∷ says (Handed 2) ∷ at 1 20 Base ∷ []
no_boost_through_a_protect_mutex = refl

raised_waiter_is_first_of_a_none_mutex :
    report (start (10 ∷ 40 ∷ 30 ∷ 90 ∷ []) (none ∷ inherit ∷ []) 1)
    ((1, Lock 1) ∷ (3, Lock 2) ∷ (2, Lock 1) ∷ (3, Lock 1) ∷ (4, Lock 2) ∷ (1, Unlock 1) ∷ [])
    ≡ says Granted ∷ says Granted ∷ says Queued ∷ says Queued
    ∷ says Queued ∷ at 3 90 (Waiter 4 2) ∷ says (Handed 3) ∷ []
raised_waiter_is_first_of_a_none_mutex = refl

deadlock_through_none_and_protect_mutexes :
    report (start (10 ∷ 20 ∷ []) (none ∷ protect 30 ∷ []) 1)
    ((1, Lock 1) ∷ (2, Lock 2) ∷ (2, Lock 1) ∷ (1, Lock 2) ∷ [])
    ≡ says Granted ∷ says Granted ∷ at 2 30 (Ceiling 2) ∷ says Queued ∷ says (Refused Refusal.Deadlock) ∷ []
deadlock_through_none_and_protect_mutexes = refl

withdrawals_end_the_boost :
    report (start (10 ∷ 50 ∷ 50 ∷ []) (inherit ∷ []) 1)
    ((1, Lock 1) ∷ (2, Lock 1) ∷ (3, Lock 1) ∷ (2, Cancel 2) ∷ (3, Cancel 3) ∷ [])
    ≡ says Granted ∷ says Queued ∷ at 1 50 (Waiter 2 1) ∷ says Queued ∷ says Withdrawn
    ∷ says Withdrawn ∷ at 1 10 Base ∷ []
withdrawals_end_the_boost = refl

ceiling_compared_with_the_base :
    report (start (60 ∷ []) (protect 59 ∷ protect 60 ∷ []) 1)
    ((1, Lock 1) ∷ (1, Lock 2) ∷ (1, SetBase 1 99) ∷ (1, SetBase 1 100) ∷ [])
    ≡ says (Refused Refusal.Ceiling) ∷ says Granted ∷ says Set ∷ at 1 99 Base ∷ says (Refused Refusal.Priority) ∷ []
ceiling_compared_with_the_base = refl

release_hands_all_mutexes_over :
    report (start (10 ∷ 20 ∷ 30 ∷ []) (protect 40 ∷ protect 50 ∷ none ∷ []) 1)
    ((1, Lock 2) ∷ (1, Lock 1) ∷ (1, Lock 3) ∷ (2, Lock 1) ∷ (3, Lock 2) ∷ (1, ReleaseAll) ∷ (1, ReleaseAll) ∷ [])
    ≡ says Granted ∷ at 1 50 (Ceiling 2) ∷ says Granted ∷ says Granted ∷ says Queued ∷ says Queued
    ∷ says (Released 3) ∷ at 1 10 Base ∷ at 2 40 (Ceiling 1) ∷ at 3 50 (Ceiling 2) ∷ says (Released 0) ∷ []
release_hands_all_mutexes_over = refl

lowered_base_lowers_the_chain_above :
    report four_and_one (chain_of_three ++ (1, SetBase 4 15) ∷ [])
    ≡ boosted_chain ++ says Set ∷ at 1 30 (Waiter 2 1) ∷ at 2 30 (Waiter 3 2) ∷ at 3 30 Base ∷ at 4 15 Base ∷ []
lowered_base_lowers_the_chain_above = refl

who_may_unlock_try_and_cancel :
    report (start (10 ∷ 20 ∷ []) (none ∷ none ∷ []) 1)
    ((1, Lock 1) ∷ (2, Unlock 1) ∷ (2, Lock 1) ∷ (2, Try 2) ∷ (1, Cancel 1) ∷ (1, Unlock 1) ∷ (2, Unlock 1) ∷ [])
    ≡ says Granted ∷ says (Refused Refusal.NotOwner) ∷ says Queued ∷ says (Refused Refusal.Waiting)
    ∷ says (Refused Refusal.NotWaiting) ∷ says (Handed 2) ∷ says Freed ∷ []
who_may_unlock_try_and_cancel = refl

unknown_numbers_are_refused :
    report (start (10 ∷ []) (none ∷ []) 1) ((2, Lock 1) ∷ (0, Lock 1) ∷ (1, Lock 9) ∷ (1, Unlock 0) ∷ [])
    ≡ says (Refused Refusal.NoTask) ∷ says (Refused Refusal.NoTask) ∷ says (Refused Refusal.NoMutex) ∷ says (Refused Refusal.NoMutex) ∷ []
unknown_numbers_are_refused = refl

highest_waiter_first_on_a_none_mutex :
    report (start (10 ∷ 30 ∷ 20 ∷ []) (none ∷ []) 1)
    ((1, Lock 1) ∷ (3, Lock 1) ∷ (2, Lock 1) ∷ (2, Unlock 1) ∷ (1, Unlock 1) ∷ (2, Unlock 1) ∷ (3, Unlock 1) ∷ (3, Unlock 1) ∷ [])
    ≡ says Granted ∷ says Queued ∷ says Queued ∷ says (Refused Refusal.Waiting) ∷ says (Handed 2) ∷ says (Handed 3)
    ∷ says Freed ∷ says (Refused Refusal.NotOwner) ∷ []
highest_waiter_first_on_a_none_mutex = refl

deadlock_of_three_is_busy_for_a_try :
    report (start (10 ∷ 20 ∷ 30 ∷ []) (inherit ∷ none ∷ inherit ∷ []) 1)
    ((1, Lock 1) ∷ (2, Lock 2) ∷ (3, Lock 3) ∷ (2, Lock 1) ∷ (3, Lock 2) ∷ (1, Lock 3) ∷ (1, Try 3) ∷ (1, Try 1) ∷ [])
    ≡ says Granted ∷ says Granted ∷ says Granted ∷ says Queued ∷ at 1 20 (Waiter 2 1) ∷ says Queued
    ∷ says (Refused Refusal.Deadlock) ∷ says (Refused Refusal.Busy) ∷ says (Refused Refusal.Busy) ∷ []
deadlock_of_three_is_busy_for_a_try = refl

highest_of_all_protocols :
    report (start (10 ∷ 40 ∷ []) (protect 30 ∷ protect 50 ∷ inherit ∷ []) 1)
    ((1, Lock 1) ∷ (1, Lock 3) ∷ (2, Lock 3) ∷ (1, Lock 2) ∷ (1, Unlock 2) ∷ (1, Unlock 3) ∷ [])
    ≡ says Granted ∷ at 1 30 (Ceiling 1) ∷ says Granted ∷ says Queued ∷ at 1 40 (Waiter 2 3)
    ∷ says Granted ∷ at 1 50 (Ceiling 2) ∷ says Freed ∷ at 1 40 (Waiter 2 3) ∷ says (Handed 2) ∷ at 1 30 (Ceiling 1) ∷ []
highest_of_all_protocols = refl

withdrawal_lowers_the_chain_above :
    report four_and_one (chain_of_three ++ (1, Cancel 3) ∷ (5, Cancel 9) ∷ [])
    ≡ boosted_chain ++ says Withdrawn ∷ at 1 20 (Waiter 2 1) ∷ at 2 20 Base ∷ says (Refused Refusal.NoTask) ∷ []
withdrawal_lowers_the_chain_above = refl

hand_over_ignores_the_ceiling :
    report (start (10 ∷ 20 ∷ 30 ∷ []) (protect 40 ∷ []) 1)
    ((1, Lock 1) ∷ (2, Lock 1) ∷ (3, Lock 1) ∷ (1, SetBase 3 50) ∷ (1, SetBase 2 50) ∷ (1, Unlock 1) ∷ (2, Unlock 1) ∷ [])
    ≡ says Granted ∷ at 1 40 (Ceiling 1) ∷ says Queued ∷ says Queued ∷ says Set ∷ at 3 50 Base
    ∷ says Set ∷ at 2 50 Base ∷ says (Handed 2) ∷ at 1 10 Base ∷ says (Handed 3) ∷ []
hand_over_ignores_the_ceiling = refl

-- the ceiling of an owned mutex is lowered and raised by its owner alone, and that of a free one by any task; it may be
-- below the owner's base
ceilings_that_change :
    report (start (20 ∷ 40 ∷ []) (protect 50 ∷ none ∷ []) 1)
    ((1, Lock 1) ∷ (1, SetCeiling 1 30) ∷ (2, SetCeiling 1 60) ∷ (2, Lock 1) ∷ (1, SetCeiling 1 10) ∷ (1, SetCeiling 2 30)
    ∷ (1, SetCeiling 1 100) ∷ (1, Unlock 1) ∷ (2, SetCeiling 1 45) ∷ (2, Lock 1) ∷ [])
    ≡ says Granted ∷ at 1 50 (Ceiling 1) ∷ says Set ∷ at 1 30 (Ceiling 1) ∷ says (Refused Refusal.Busy)
    ∷ says (Refused Refusal.Ceiling) ∷ says Set ∷ at 1 20 Base ∷ says (Refused Refusal.NotProtect)
    ∷ says (Refused Refusal.Priority) ∷ says Freed ∷ says Set ∷ says Granted ∷ at 2 45 (Ceiling 1) ∷ []
ceilings_that_change = refl

-- unknown task, a task that waits, unknown mutex, no PROTECT mutex, no priority, another's mutex: in this order
what_refuses_a_ceiling :
    report (start (10 ∷ 20 ∷ []) (protect 30 ∷ inherit ∷ none ∷ []) 1)
    ((1, Lock 1) ∷ (2, SetCeiling 9 0) ∷ (2, SetCeiling 2 0) ∷ (2, SetCeiling 3 0) ∷ (2, SetCeiling 1 0) ∷ (2, SetCeiling 1 99)
    ∷ (2, Lock 1) ∷ (2, SetCeiling 9 0) ∷ (3, SetCeiling 9 0) ∷ (1, SetCeiling 1 15) ∷ (1, Unlock 1) ∷ [])
    ≡ says Granted ∷ at 1 30 (Ceiling 1) ∷ says (Refused Refusal.NoMutex) ∷ says (Refused Refusal.NotProtect)
    ∷ says (Refused Refusal.NotProtect) ∷ says (Refused Refusal.Priority) ∷ says (Refused Refusal.Busy)
    ∷ says Queued ∷ says (Refused Refusal.Waiting) ∷ says (Refused Refusal.NoTask)
    ∷ says Set ∷ at 1 15 (Ceiling 1) ∷ says (Handed 2) ∷ at 1 10 Base ∷ []
what_refuses_a_ceiling = refl

-- locked three times, a recursive mutex is kept at the first two unlocks, and handed over at the third; the new owner has
-- it once, then twice, and releases both in one step
recursive_mutex_with_a_waiter :
    report (start (10 ∷ 50 ∷ []) (recursive ∷ []) 1)
    ((1, Lock 1) ∷ (1, Lock 1) ∷ (1, Try 1) ∷ (2, Try 1) ∷ (2, Lock 1) ∷ (1, Unlock 1) ∷ (1, Unlock 1) ∷ (1, Unlock 1)
    ∷ (1, Unlock 1) ∷ (2, Lock 1) ∷ (2, ReleaseAll) ∷ [])
    ≡ says Granted ∷ says Granted ∷ says Granted ∷ says (Refused Refusal.Busy) ∷ says Queued ∷ at 1 50 (Waiter 2 1)
    ∷ says Kept ∷ says Kept ∷ says (Handed 2) ∷ at 1 10 Base
    ∷ says (Refused Refusal.NotOwner) ∷ says Granted ∷ says (Released 1) ∷ []
recursive_mutex_with_a_waiter = refl

-- a mutex is locked 255 times at most, and unlocked as often
as_often_as_can_be_counted :
    report (start (10 ∷ []) (recursive ∷ []) 1) (replicate 256 (1, Lock 1) ++ replicate 255 (1, Unlock 1))
    ≡ replicate 255 (says Granted) ++ says (Refused Refusal.Again) ∷ (replicate 254 (says Kept) ++ says Freed ∷ [])
as_often_as_can_be_counted = refl

-- what another owns is a deadlock all the same, and what isn't recursive is one for its owner; a relock takes no ticket
what_a_relock_is_not :
    report (start (10 ∷ 20 ∷ []) (recursive ∷ recursive ∷ inherit ∷ []) LAST_TICKET)
    ((1, Lock 1) ∷ (2, Lock 2) ∷ (2, Lock 1) ∷ (1, Lock 2) ∷ (1, Lock 1) ∷ (1, Lock 3) ∷ (1, Lock 3) ∷ (1, Try 3) ∷ (1, Unlock 3) ∷ [])
    ≡ says Granted ∷ says Granted ∷ says Queued ∷ at 1 20 (Waiter 2 1) ∷ says (Refused Refusal.Deadlock)
    ∷ says Granted ∷ says Granted ∷ says (Refused Refusal.Deadlock) ∷ says (Refused Refusal.Busy) ∷ says Freed ∷ []
what_a_relock_is_not = refl

-- a task with a ceiling of 50, and a waiter that donates 50
abbrev ceiling_and_waiter : State
ceiling_and_waiter = start (10 ∷ 50 ∷ []) (protect 50 ∷ inherit ∷ []) 1

ceiling_beside_a_waiter :
    report ceiling_and_waiter ((1, Lock 2) ∷ (2, Lock 2) ∷ (1, Lock 1) ∷ (1, Unlock 2) ∷ (1, Unlock 1) ∷ [])
    ≡ says Granted ∷ says Queued ∷ at 1 50 (Waiter 2 2) ∷ says Granted ∷ says (Handed 2) ∷ says Freed ∷ at 1 10 Base ∷ []
ceiling_beside_a_waiter = refl

-- the state after these steps
abbrev state_after : State → List (ℕ × Op) → State
state_after S [] = S
state_after S (x ∷ xs) = state_after (after S (record { actor = x.0; op = x.1 })) xs

ceiling_is_a_reason_before_a_waiter :
    reason_of (state_after ceiling_and_waiter ((1, Lock 2) ∷ (2, Lock 2) ∷ (1, Lock 1) ∷ [])) 1 ≡ Ceiling 1
ceiling_is_a_reason_before_a_waiter = refl

last_ticket :
    report (start (10 ∷ 20 ∷ 30 ∷ []) (inherit ∷ []) LAST_TICKET) ((1, Lock 1) ∷ (2, Lock 1) ∷ (3, Lock 1) ∷ (3, Try 1) ∷ [])
    ≡ says Granted ∷ says Queued ∷ at 1 20 (Waiter 2 1) ∷ says (Refused Refusal.Tickets) ∷ says (Refused Refusal.Busy) ∷ []
last_ticket = refl

lowered_through_an_owner_with_another_waiter :
    report (start (10 ∷ 20 ∷ 30 ∷ 60 ∷ 90 ∷ []) (inherit ∷ inherit ∷ inherit ∷ inherit ∷ []) 1)
    ((1, Lock 1) ∷ (2, Lock 2) ∷ (2, Lock 3) ∷ (3, Lock 4) ∷ (3, Lock 2) ∷ (4, Lock 3) ∷ (2, Lock 1) ∷ (5, Lock 4) ∷ (5, Cancel 5) ∷ [])
    ≡ says Granted ∷ says Granted ∷ says Granted ∷ says Granted
    ∷ says Queued ∷ at 2 30 (Waiter 3 2) ∷ says Queued ∷ at 2 60 (Waiter 4 3) ∷ says Queued ∷ at 1 60 (Waiter 2 1)
    ∷ says Queued ∷ at 1 90 (Waiter 2 1) ∷ at 2 90 (Waiter 3 2) ∷ at 3 90 (Waiter 5 4)
    ∷ says Withdrawn ∷ at 1 60 (Waiter 2 1) ∷ at 2 60 (Waiter 4 3) ∷ at 3 30 Base ∷ []
lowered_through_an_owner_with_another_waiter = refl

refused_deadlock_leaves_priorities :
    report (start (10 ∷ 20 ∷ 30 ∷ 60 ∷ 90 ∷ []) (inherit ∷ inherit ∷ inherit ∷ inherit ∷ inherit ∷ []) 1)
    ((5, Lock 5) ∷ (1, Lock 1) ∷ (2, Lock 2) ∷ (2, Lock 3) ∷ (3, Lock 4)
    ∷ (3, Lock 2) ∷ (4, Lock 3) ∷ (2, Lock 1) ∷ (1, Lock 5) ∷ (5, Lock 4) ∷ [])
    ≡ says Granted ∷ says Granted ∷ says Granted ∷ says Granted ∷ says Granted
    ∷ says Queued ∷ at 2 30 (Waiter 3 2) ∷ says Queued ∷ at 2 60 (Waiter 4 3) ∷ says Queued ∷ at 1 60 (Waiter 2 1)
    ∷ says Queued ∷ says (Refused Refusal.Deadlock) ∷ []
refused_deadlock_leaves_priorities = refl

new_owner_keeps_what_its_waiters_donate :
    report (start (10 ∷ 50 ∷ 40 ∷ []) (inherit ∷ []) 1)
    ((1, Lock 1) ∷ (2, Lock 1) ∷ (3, Lock 1) ∷ (1, Unlock 1) ∷ (1, SetBase 2 20) ∷ (1, SetBase 2 21) ∷ [])
    ≡ says Granted ∷ says Queued ∷ at 1 50 (Waiter 2 1) ∷ says Queued ∷ says (Handed 2) ∷ at 1 10 Base
    ∷ says Set ∷ at 2 40 (Waiter 3 1) ∷ says Set ∷ []
new_owner_keeps_what_its_waiters_donate = refl

second_waiter_becomes_first_with_a_changed_priority :
    report (start (10 ∷ 20 ∷ 30 ∷ 50 ∷ 70 ∷ 90 ∷ []) (inherit ∷ inherit ∷ inherit ∷ inherit ∷ []) 1)
    ((2, Lock 1) ∷ (2, Lock 2) ∷ (3, Lock 3) ∷ (1, Lock 4) ∷ (4, Lock 2) ∷ (6, Lock 1)
    ∷ (1, Lock 3) ∷ (2, Lock 3) ∷ (5, Lock 4) ∷ (3, Unlock 3) ∷ (2, Unlock 1) ∷ [])
    ≡ says Granted ∷ says Granted ∷ says Granted ∷ says Granted
    ∷ says Queued ∷ at 2 50 (Waiter 4 2) ∷ says Queued ∷ at 2 90 (Waiter 6 1) ∷ says Queued
    ∷ says Queued ∷ at 3 90 (Waiter 2 3) ∷ says Queued ∷ at 1 70 (Waiter 5 4)
    ∷ says (Handed 2) ∷ at 3 30 Base ∷ says (Handed 6) ∷ at 2 70 (Waiter 1 3) ∷ []
second_waiter_becomes_first_with_a_changed_priority = refl

worked_story :
    report (start (10 ∷ 20 ∷ 30 ∷ 90 ∷ []) (inherit ∷ inherit ∷ inherit ∷ []) 1)
    (chain_of_three ++ (1, Lock 3) ∷ (1, SetBase 4 15) ∷ (1, Unlock 1) ∷ [])
    ≡ boosted_chain ++ says (Refused Refusal.Deadlock)
    ∷ says Set ∷ at 1 30 (Waiter 2 1) ∷ at 2 30 (Waiter 3 2) ∷ at 3 30 Base ∷ at 4 15 Base
    ∷ says (Handed 2) ∷ at 1 10 Base ∷ []
worked_story = refl
