use Rattle.std.proofs.Common.{◌≡◌, ◌+◌, ℕ}
use Rattle.std.specs.List.{slice_get}
use Rattle.pim_text.specs.Reading.{words}
use Rattle.pim_text.proofs.explaining.word.word_at.Given as goal

-- the words from this place on are those of the rest
abbrev pub invariant-loop-passed : goal.invariant-loop-passed
invariant-loop-passed l = (k : ℕ) → slice_get (words l.line) (l._passed + k) ≡ slice_get (words l.rest) k
