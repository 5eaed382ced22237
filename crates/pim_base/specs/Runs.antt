-- Many steps, one after another, and the steps of many tasks between one another.
use Rattle.std.specs.Prelude.{◌≡◌, ◌≤◌, ◌==◌, ℕ, List, [], ◌∷◌, ◌++◌, length, map, filter, Some, All}
use Rattle.pim_base.specs.Lists.{nth}
use Rattle.pim_base.specs.State.{State}
use Rattle.pim_base.specs.Steps.{reply_of, after}
use Rattle.pim_base.specs.declared.steps.Entry.{Entry}
use Rattle.pim_base.specs.declared.steps.Op.{Op}

-- each reply is the one that the step is given there, and the last state is `end`
abbrev pub IsRun : State → List Entry → State → Type 0
IsRun S [] end = end ≡ S
IsRun S (e ∷ es) end = (e.reply ≡ reply_of S e.step) × IsRun (after S e.step) es end

-- what the task asks for in the entries, in order
abbrev pub asked_by : ℕ → List Entry → List Op
asked_by t es = map (λ (e : Entry). e.step.op) (filter (λ (e : Entry). e.step.actor == t) es)

-- each task's steps are its script and then one release of all, in order, and no other task has a step
pub record IsInterleaving (es : List Entry) (scripts : List (List Op)) : Type 0 where
  pub each : (t : ℕ) (script : List Op) → nth scripts t ≡ Some script → asked_by t es ≡ script ++ Op.ReleaseAll ∷ []
  pub no_other : All (λ (e : Entry). (1 ≤ e.step.actor) × (e.step.actor ≤ length scripts)) es
