use Rattle.std.proofs.Common.{length}
use Rattle.pim_base.specs.Texts.{lines_of}
use Rattle.pim_text.specs.Reading.{trace_of}
use Rattle.pim_text.proofs.ReadingLemmas.{Halfway}
use Rattle.pim_text.proofs.reading.read.Given as goal

-- the lines before the rest are those of the text so far
abbrev pub invariant-loop-rest : goal.invariant-loop-rest
invariant-loop-rest l = Halfway l.kind (lines_of l.fn.bytes) (lines_of l.rest) (trace_of l.text) l.number

-- the bytes that are left
abbrev pub decreases-loop-rest : goal.decreases-loop-rest
decreases-loop-rest l = length l.rest
