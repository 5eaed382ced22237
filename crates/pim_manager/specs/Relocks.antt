-- The reply to a lock or a try of a recursive mutex by its owner.
use Rattle.std.specs.Prelude.{◌==◌, ℕ, if◌then◌else◌}
use Rattle.pim_base.specs.State.{State, count_of}
use Rattle.pim_base.specs.declared.limits.TheConstants.{MAX_COUNT}
use Rattle.pim_base.specs.declared.steps.Refusal.{Refusal}
use Rattle.pim_base.specs.declared.steps.Reply.{Reply}

-- granted, or refused with Again if the count is at its maximum
abbrev pub relocked : State → ℕ → Reply
relocked S m = if count_of S m == MAX_COUNT then Reply.Refused Refusal.Again else Reply.Granted
