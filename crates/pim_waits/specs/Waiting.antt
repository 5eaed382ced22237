-- What a thread gets, which thread has to run for its wait to end, and which mutex is to blame if
-- that is inverted.
use Rattle.std.specs.Prelude.{◌==◌, ◌||◌, ℕ, List, [], ◌∷◌, Option, Some, None, is_some, nat_lt}
use Rattle.std.specs.Prelude.{if◌then◌else◌}
use Rattle.std.specs.List.{filter_map}
use Rattle.std.specs.Option.{option_and_then, option_map}
use Rattle.pim_base.specs.Lists.{first_item}
use Rattle.pim_base.specs.State.{State, wait_of}
use Rattle.pim_base.specs.Chains.{blocker, waits_chain}
use Rattle.pim_base.specs.Priorities.{effective_priority}
use Rattle.pim_base.specs.declared.steps.Wait.{Wait}

-- what a thread gets: the priority at which it has to execute. (POSIX.1-2017,
-- pthread_mutexattr_getprotocol)
abbrev pub gets : State → ℕ → ℕ
gets S t = effective_priority S t

-- a thread, the owner of the mutex that it awaits, the owner of the mutex that this one awaits, and
-- so on
abbrev pub way : State → ℕ → List ℕ
way S t = waits_chain S t

-- the last item, if there is one
abbrev pub last_item : List ℕ → Option ℕ
last_item [] = None
last_item (x ∷ []) = Some x
last_item (x ∷ y ∷ ys) = last_item (y ∷ ys)

-- a thread other than t that awaits no mutex which is owned
abbrev pub other_end : State → ℕ → ℕ → Option ℕ
other_end S t u = if u == t || is_some (blocker S u) then None else Some u

-- the thread that has to run for the wait of t to end: where its way ends. There is none while the
-- mutex that t awaits is free, nor if the way leads into a cycle.
abbrev pub runner : State → ℕ → Option ℕ
runner S t = option_and_then (other_end S t) (last_item (way S t))

-- the mutex that u awaits, if its owner gets less than this
abbrev pub passes_less : State → ℕ → ℕ → Option ℕ
passes_less S level u =
    option_and_then
    (λ v. if nat_lt (gets S v) level
    then option_map (λ (w : Wait). w.mutex) (wait_of S u) else None)
    (blocker S u)

-- the mutex to blame if t is inverted: the first one on its way whose owner gets less than t gets.
-- It should inherit, or its ceiling is too low.
abbrev pub blame : State → ℕ → Option ℕ
blame S t = first_item (filter_map (passes_less S (gets S t)) (way S t))
