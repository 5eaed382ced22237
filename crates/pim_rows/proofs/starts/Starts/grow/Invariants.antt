use Rattle.std.proofs.Common.{◌≡◌, ℕ, length}
use Rattle.pim_rows.specs.Kept.{kept_of}
use Rattle.pim_rows.proofs.starts.Starts.grow.Given as goal

-- nothing else is kept, and the list is as long as the number of its places
abbrev pub invariant-loop-place : goal.invariant-loop-place
invariant-loop-place g l =
    (length l.self.starts.items ≡ l._place)
    × ((n : ℕ) → kept_of l.self n ≡ kept_of l.initial.self n)
