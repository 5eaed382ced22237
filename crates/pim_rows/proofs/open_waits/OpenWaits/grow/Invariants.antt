use Rattle.std.proofs.Common.{◌≡◌, ℕ, length}
use Rattle.pim_rows.specs.AllOpen.{open_at}
use Rattle.pim_rows.proofs.open_waits.OpenWaits.grow.Given as goal

-- nothing else is kept, and the list is as long as the number of its places
abbrev pub invariant-loop-thread : goal.invariant-loop-thread
invariant-loop-thread l =
    (length l.self.opens.items ≡ l._thread)
    × ((t : ℕ) → open_at l.self.opens.items t ≡ open_at l.initial.self.opens.items t)
