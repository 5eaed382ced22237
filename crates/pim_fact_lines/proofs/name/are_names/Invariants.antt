use Rattle.pim_fact_lines.specs.Words.{is_name}
use Rattle.pim_fact_lines.specs.Lines.{are_few}
use Rattle.pim_fact_lines.specs.Reading.{words_after}
use Rattle.pim_fact_lines.proofs.Fews.{Halfway}
use Rattle.pim_fact_lines.proofs.name.are_names.Given as goal

-- the words so far are names
abbrev pub invariant-loop-count : goal.invariant-loop-count
invariant-loop-count l = Halfway is_name (are_few is_name (words_after l.fn.tail)) l._count l.left
