use Rattle.std.proofs.Common.{◌≡◌, ℕ, length}
use Rattle.pim_spans.specs.Kept.{kept_at}
use Rattle.pim_spans.proofs.tracks.Tracks.grow.Given as goal

-- nothing else is kept, and the list is as long as the number of its places
abbrev pub invariant-loop-place : goal.invariant-loop-place
invariant-loop-place l =
    (length l.self.tracks.items ≡ l._place)
    × ((n : ℕ) → kept_at l.self.tracks.items n ≡ kept_at l.initial.self.tracks.items n)
