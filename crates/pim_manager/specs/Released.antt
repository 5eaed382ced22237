-- The mutexes that a step releases and that may have another owner then.
use Rattle.std.specs.Prelude.{ℕ, ◌||◌, List, [], ◌∷◌, Option, Some, None, if◌then◌else◌}
use Rattle.pim_base.specs.State.{State, owned}
use Rattle.pim_base.specs.Checks.{is_waiting, unknown_task}
use Rattle.pim_base.specs.declared.steps.Op.{Op}
use Rattle.pim_base.specs.declared.steps.Reply.{Reply}

-- all that the task owns, if it may release them: it is known and doesn't wait
abbrev pub releasable : State → ℕ → List ℕ
releasable S a = if unknown_task S a || is_waiting S a then [] else owned S a

-- those that the actor a releases all at once
abbrev pub released_at_once : State → ℕ → Op → List ℕ
released_at_once S a Op.ReleaseAll = releasable S a
released_at_once S a _ = []

-- the mutex that the operation unlocks, if it is an unlock
abbrev pub unlocked : Op → Option ℕ
unlocked (Op.Unlock m) = Some m
unlocked _ = None

-- the unlocked mutex if it was handed over, or else these
abbrev pub released_then : List ℕ → Option ℕ → Reply → List ℕ
released_then ms (Some m) (Reply.Handed t) = m ∷ []
released_then ms _ _ = ms
