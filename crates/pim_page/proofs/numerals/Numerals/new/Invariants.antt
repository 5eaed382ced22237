use Rattle.pim_page.specs.Numerals.{AreNumerals}
use Rattle.pim_page.proofs.numerals.Numerals.new.Given as goal

-- those of the numbers so far
abbrev pub invariant-loop-number : goal.invariant-loop-number
invariant-loop-number l = AreNumerals l.number l.texts.items
