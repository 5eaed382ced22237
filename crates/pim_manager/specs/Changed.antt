-- The tasks whose priority a step changed, and the mutexes that it handed over.
use Rattle.std.specs.Prelude.{ℕ, List, map}
use Rattle.pim_base.specs.State.{State}
use Rattle.pim_base.specs.Priorities.{effective_priority}
use Rattle.pim_base.specs.Reasons.{reason_of}
use Rattle.pim_base.specs.Reports.{changed_tasks}
use Rattle.pim_base.specs.Steps.{after}
use Rattle.pim_base.specs.declared.steps.Step.{Step}
use Rattle.pim_manager.specs.Handed.{handed_mutexes}
use Rattle.pim_manager.specs.declared.handed_mutexes.HandedMutex.{HandedMutex}
use Rattle.pim_manager.specs.declared.changed_prios.ChangedPrio.{ChangedPrio}
use Rattle.pim_manager.specs.declared.changed_tasks.ChangedTask.{ChangedTask}

-- the task with its effective priority in this state and the reason for it
abbrev pub changed_task : State → ℕ → ChangedTask
changed_task S t = record { task = t; prio = effective_priority S t; reason = reason_of S t }

-- these tasks, each as it is in this state
abbrev pub listed : State → List ℕ → List ChangedTask
listed S ts = map (changed_task S) ts

-- the changed task without the reason
abbrev pub changed_prio : ChangedTask → ChangedPrio
changed_prio c = record { task = c.task; prio = c.prio }

-- a manager's state, the tasks whose effective priority its last step changed, and the mutexes that it handed over
pub record TrackedState : Type 0 where
  pub state : State
  pub changed : List ChangedTask
  pub handed : List HandedMutex

-- the state after the step, the tasks whose effective priority it changed, as they are then, and the mutexes that it
-- handed over
abbrev pub stepped : TrackedState → Step → TrackedState
stepped h step = record {
  state = after h.state step;
  changed = listed (after h.state step) (changed_tasks h.state (after h.state step));
  handed = handed_mutexes h.state (after h.state step);
}
