use Rattle.std.proofs.Common.{◌≡◌, ◌+◌, ◌-◌, ℕ, Bool, filter, length, find}
use Rattle.std.specs.List.{range_with_len}
use Rattle.pim_base.specs.Lists.{holds}
use Rattle.pim_base.specs.State.{owner_of, owned}
use Rattle.pim_plain.proofs.plain_manager.PlainManager.least_owned.Given as goal

-- the answer is the one among the mutexes that are left
abbrev pub invariant-loop-number : goal.invariant-loop-number
invariant-loop-number g l =
    (p : ℕ → Bool)
    → ((m : ℕ) (b : Bool) → goal.F-post g l.passes m b → b ≡ p m)
    → find p (owned l.self l.task)
    ≡ find p (filter (λ m. holds (owner_of l.self m) l.task) (range_with_len l.number (length l.self.protocol + 1 - l.number)))
