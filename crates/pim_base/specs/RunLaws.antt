-- What holds of steps and of whole runs.
use Rattle.std.specs.Prelude.{◌≡◌, ◌≤◌, ◌+◌, ◌-◌, ◌^◌, ◌↔◌, ℕ, List, length, map, IsTrue}
use Rattle.pim_base.specs.State.{State, start}
use Rattle.pim_base.specs.Steps.{reply_of, after}
use Rattle.pim_base.specs.Counts.{changed_task_count}
use Rattle.pim_base.specs.Reports.{changed_tasks, same_reply, verdict_of}
use Rattle.pim_base.specs.Texts.{Trace, IsWithinLimits}
use Rattle.pim_base.specs.Scripts.{KeepsScriptRules}
use Rattle.pim_base.specs.Recordings.{IsRunOf, recording}
use Rattle.pim_base.specs.Runs.{IsRun}
use Rattle.pim_base.specs.Steady.{IsSteady}
use Rattle.pim_base.specs.declared.lines.Verdict.{Verdict}
use Rattle.pim_base.specs.declared.steps.Entry.{Entry}
use Rattle.pim_base.specs.declared.limits.TheConstants.{MAX_TASKS, MAX_MUTEXES, MAX_STEPS, MAX_WORKERS, MAX_LOOKERS, LAST_TICKET, LAST_VERSION, MAX_COUNT}
use Rattle.pim_base.specs.declared.steps.Protocol.{Protocol}
use Rattle.pim_base.specs.declared.steps.Reply.{Reply}
use Rattle.pim_base.specs.declared.steps.Step.{Step}

-- From equal states the same step has equal replies and leaves equal states.
abbrev pub SameStepLaw : Type 0
SameStepLaw = (S T : State) (step : Step) → S ≡ T → (reply_of S step ≡ reply_of T step) × (after S step ≡ after T step)

-- The limits are these numbers.
pub record LimitsLaw : Type 0 where
  pub tasks : MAX_TASKS ≡ 256
  pub mutexes : MAX_MUTEXES ≡ 256
  pub steps : MAX_STEPS ≡ 65536
  pub workers : MAX_WORKERS ≡ 16
  pub lookers : MAX_LOOKERS ≡ 8
  pub tickets : LAST_TICKET ≡ 2 ^ 64 - 2
  pub versions : LAST_VERSION ≡ 2
  pub counts : MAX_COUNT ≡ 255

-- Two replies are taken for the same exactly if they are equal.
abbrev pub SameReplyLaw : Type 0
SameReplyLaw = (r q : Reply) → IsTrue (same_reply r q) ↔ r ≡ q

-- The bound on the work of a step counts the very tasks that a report lists.
abbrev pub ChangedCountLaw : Type 0
ChangedCountLaw = (S T : State) → changed_task_count S T ≡ length (changed_tasks S T)

-- Two runs of the same steps from the same state have the same entries and the same end.
abbrev pub SameRunLaw : Type 0
SameRunLaw =
    (S end other : State) (es fs : List Entry)
    → IsRun S es end
    → IsRun S fs other
    → map (λ (e : Entry). e.step) es ≡ map (λ (e : Entry). e.step) fs
    → (es ≡ fs) × (end ≡ other)

-- Each step leaves a steady state steady: there is no cycle of waits, each waiting task has a ticket of its own, no
-- free mutex has waiters, and the count of each mutex fits its owner.
abbrev pub SteadyStepLaw : Type 0
SteadyStepLaw = (S : State) (step : Step) → IsSteady S → IsSteady (after S step)

-- Each run leaves a steady state steady.
abbrev pub SteadyRunLaw : Type 0
SteadyRunLaw = (S end : State) (es : List Entry) → IsRun S es end → IsSteady S → IsSteady end

-- The start is steady, and so is the state after every run from it.
abbrev pub StartLaw : Type 0
StartLaw = (bases : List ℕ) (protocols : List Protocol) (next : ℕ) → IsSteady (start bases protocols next)

-- A run of a script has an entry for each step of the script and one release for each task, and the report of its
-- trace accepts them all.
abbrev pub RecordingLaw : Type 0
RecordingLaw =
    (script : Trace) (es : List Entry)
    → IsWithinLimits script
    → KeepsScriptRules script
    → IsRunOf script es
    → (length es ≡ length script.steps + length script.bases) × (verdict_of (recording script es) ≡ Verdict.Accepted (length es))

-- The trace of a run of a script is within the limits of a text, and each of its lines exists in the script's
-- version, if it has no more steps than a text may have.
abbrev pub RecordedTraceLaw : Type 0
RecordedTraceLaw =
    (script : Trace) (es : List Entry)
    → IsWithinLimits script
    → IsRunOf script es
    → length es ≤ MAX_STEPS
    → IsWithinLimits (recording script es)
