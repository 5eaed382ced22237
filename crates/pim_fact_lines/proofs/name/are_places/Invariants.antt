use Rattle.pim_fact_lines.specs.Words.{is_place}
use Rattle.pim_fact_lines.specs.Lines.{are_few}
use Rattle.pim_fact_lines.specs.Reading.{words_after}
use Rattle.pim_fact_lines.proofs.Fews.{Halfway}
use Rattle.pim_fact_lines.proofs.name.are_places.Given as goal

-- the words so far are places
abbrev pub invariant-loop-count : goal.invariant-loop-count
invariant-loop-count l = Halfway is_place (are_few is_place (words_after l.fn.tail)) l._count l.left
