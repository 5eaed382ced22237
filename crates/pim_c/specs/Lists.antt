-- The lists that C may ask of a handle, with or without a manager.
use Rattle.std.specs.Prelude.{ℕ, List, [], map, Option, unwrap_or}
use Rattle.std.specs.Option.{option_map_or}
use Rattle.pim_base.specs.Queues.{queue_of}
use Rattle.pim_base.specs.declared.steps.Waiter.{Waiter}
use Rattle.pim_manager.specs.Known.{of_mutex}
use Rattle.pim_manager.specs.declared.changed_prios.ChangedPrio.{ChangedPrio}
use Rattle.pim_manager.specs.declared.changed_tasks.ChangedTask.{ChangedTask}
use Rattle.pim_manager.specs.declared.handed_mutexes.HandedMutex.{HandedMutex}
use Rattle.pim_c.specs.Getters.{in_manager}
use Rattle.pim_manager.specs.Changed.{TrackedState, changed_prio}

-- the waiters of the mutex, or no waiters if the mutex is unknown
abbrev pub waiters_in : Option TrackedState → ℕ → List Waiter
waiters_in held m = in_manager held [] (λ S. unwrap_or (of_mutex S m (queue_of S m)) [])

-- the tasks that the last step changed
abbrev pub changed_in : Option TrackedState → List ChangedTask
changed_in held = option_map_or (λ (h : TrackedState). h.changed) held []

-- the same without the reasons
abbrev pub prios_in : Option TrackedState → List ChangedPrio
prios_in held = map changed_prio (changed_in held)

-- the mutexes that the last step handed over, with their new owners
abbrev pub handed_in : Option TrackedState → List HandedMutex
handed_in held = option_map_or (λ (h : TrackedState). h.handed) held []
