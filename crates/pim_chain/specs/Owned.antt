-- What a task receives from the mutexes that it owns.
use Rattle.std.specs.Prelude.{◌==◌, ◌&&◌, ℕ, max, nat_lt, Bool, cond, is_some, List, Some}
use Rattle.std.specs.List.{find}
use Rattle.std.specs.Option.{option_map_or}
use Rattle.pim_base.specs.Lists.{first_item}
use Rattle.pim_base.specs.State.{owner_of, protocol_of, with_owner}
use Rattle.pim_base.specs.Chains.{heir_of}
use Rattle.pim_base.specs.Priorities.{ceiling_of}
use Rattle.pim_base.specs.Reasons.{is_inherit}
use Rattle.pim_base.specs.declared.steps.Reason.{Reason}
use Rattle.pim_base.specs.declared.steps.Waiter.{Waiter}
use Rattle.pim_chain.specs.Views.{View, stored_at, queue_at, first_prio, with_state}

-- the priority that a mutex gives its owner: its ceiling, or the priority of its first waiter
abbrev pub given : View → ℕ → ℕ
given v m = max (ceiling_of v.state m) (cond (is_some (heir_of v.state m)) (first_prio (queue_at v m)) 0)

-- the priority that a free mutex gives to this task if it becomes the owner
abbrev pub given_to : View → ℕ → ℕ → ℕ
given_to v m t = given (with_state v (with_owner v.state m (Some t))) m

-- the priority that a task gives the owner of the mutex that it waits for: its own if that is inherited, else 0
abbrev pub given_by : View → ℕ → ℕ → ℕ
given_by v t m = cond (is_inherit (protocol_of v.state m)) (stored_at v t) 0

-- the visits of the new owner in a hand-over from v to w: 1 if the mutex gives it more than it had, else 0
abbrev pub new_owner_visits : View → View → ℕ → ℕ
new_owner_visits v w m = option_map_or (λ t. cond (nat_lt (stored_at v t) (given w m)) 1 0) (owner_of w.state m) 0

-- the visits of the old owner in a hand-over of the mutex: 0 if it had more than the mutex gave, else 1
abbrev pub old_owner_visits : View → ℕ → ℕ → ℕ
old_owner_visits v m a = cond (nat_lt (given v m) (stored_at v a)) 0 1

-- the mutex is a PRIO_INHERIT one, and its first waiter has the priority
abbrev pub donates_now : View → ℕ → ℕ → Bool
donates_now v p m = is_inherit (protocol_of v.state m) && (first_prio (queue_at v m) == p)

-- the first waiter of the mutex, as a reason
abbrev pub first_reason : View → ℕ → Reason
first_reason v m = option_map_or (λ (w : Waiter). Reason.Waiter w.task m) (first_item (queue_at v m)) Reason.Base

-- the least of these mutexes with the ceiling, else the first waiter for the least whose waiters donate the priority
abbrev pub owned_reason : View → ℕ → List ℕ → Reason
owned_reason v p ms =
    option_map_or Reason.Ceiling (find (λ m. ceiling_of v.state m == p) ms)
    (option_map_or (first_reason v) (find (donates_now v p) ms) Reason.Base)
