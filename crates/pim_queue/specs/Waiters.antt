-- Lists of waiters: their order, and the changes of one waiter.
use Rattle.std.specs.Prelude.{◌≡◌, ◌≢◌, ℕ, Bool, true, cond, ◌==◌, List, [], ◌∷◌}
use Rattle.std.specs.List.{AllByRecursion, find}
use Rattle.std.specs.Option.{option_map_or}
use Rattle.pim_base.specs.Lists.{insert_by}
use Rattle.pim_base.specs.Queues.{precedes}
use Rattle.pim_base.specs.declared.steps.Waiter.{Waiter}

abbrev pub is_of : ℕ → Waiter → Bool
is_of task w = w.task == task

abbrev pub has_ticket : ℕ → Waiter → Bool
has_ticket ticket w = w.ticket == ticket

-- the first waiter of the task taken out
abbrev pub without : ℕ → List Waiter → List Waiter
without task [] = []
without task (v ∷ vs) = cond (is_of task v) vs (v ∷ without task vs)

-- the ticket of the task's waiter, or 0
abbrev pub ticket_of : ℕ → List Waiter → ℕ
ticket_of task ws = option_map_or (λ (w : Waiter). w.ticket) (find (is_of task) ws) 0

-- the task's waiter, with its ticket, in the place of its new priority
abbrev pub repositioned : ℕ → ℕ → List Waiter → List Waiter
repositioned task prio ws =
    insert_by precedes (without task ws) (record { task = task; prio = prio; ticket = ticket_of task ws })

-- each is before all later ones
abbrev pub IsOrdered : List Waiter → Type 0
IsOrdered [] = Unit {0}
IsOrdered (w ∷ ws) = AllByRecursion (λ v. precedes w v ≡ true) ws × IsOrdered ws

-- the two are of different tasks, and have different tickets
pub record Differs (w v : Waiter) : Type 0 where
  pub task : w.task ≢ v.task
  pub ticket : w.ticket ≢ v.ticket

-- each differs from all later ones
abbrev pub IsApart : List Waiter → Type 0
IsApart [] = Unit {0}
IsApart (w ∷ ws) = AllByRecursion (Differs w) ws × IsApart ws
