-- The answer to a step in C.
use Rattle.std.specs.Prelude.{◌≡◌, ◌≤◌, ◌+◌, ◌*◌, length, Option, Some, None}
use Rattle.std.specs.Option.{option_map}
use Rattle.pim_base.specs.Counts.{changed_task_count, handed_mutex_count}
use Rattle.pim_base.specs.Reports.{changed_tasks}
use Rattle.pim_base.specs.State.{State}
use Rattle.pim_base.specs.declared.steps.Step.{Step}
use Rattle.pim_c.specs.Kernel.{c_reply, c_after, c_stepped}
use Rattle.pim_c.specs.Numbers.{reply_number, reply_refusal, reply_detail}
use Rattle.pim_c.specs.declared.numbers.TheConstants.{NO_MANAGER}
use Rattle.pim_manager.specs.Changed.{TrackedState}
use Rattle.pim_c.specs.declared.answer.CAnswer.{CAnswer}

-- the answer of a handle without a manager
abbrev pub no_answer : CAnswer
no_answer = record { kind = NO_MANAGER; refusal = 0; number = 0; visits = 0; changed = 0 }

-- the reply to the step in this state, visits within the manager's bound, and how many tasks have another effective
-- priority then: as many as are listed
pub record IsAnswer (S : State) (step : Step) (a : CAnswer) : Type 0 where
  pub kind : a.kind ≡ reply_number (c_reply S step)
  pub refusal : a.refusal ≡ reply_refusal (c_reply S step)
  pub number : a.number ≡ reply_detail (c_reply S step)
  pub least : changed_task_count S (c_after S step) ≤ a.visits
  pub most : a.visits ≤ 1 + changed_task_count S (c_after S step) + 2 * handed_mutex_count S (c_after S step)
  pub changed : a.changed ≡ changed_task_count S (c_after S step)
  pub listed : a.changed ≡ length (changed_tasks S (c_after S step))

-- the answer to the step, also of a handle without a manager
abbrev pub IsAnswered : Option TrackedState → Step → CAnswer → Type 0
IsAnswered None step a = a ≡ no_answer
IsAnswered (Some h) step a = IsAnswer h.state step a

-- the value behind a handle after the step, or None if it has no manager
abbrev pub after_step : Option TrackedState → Step → Option TrackedState
after_step held step = option_map (λ h. c_stepped h step) held
