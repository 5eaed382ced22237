use Rattle.std.proofs.Common.{sym, ◌∙◌}
use Rattle.pim_fact_lines.specs.Reading.{words_after}
use Rattle.pim_fact_lines.proofs.Numbers.{some_zero}
use Rattle.pim_fact_lines.proofs.FirstNumbers.{first_some, none_padded}
use Rattle.pim_fact_lines.proofs.word.cut_zero.Goals as goal

pub returns-then-not-is : goal.returns-then-not-is
returns-then-not-is c =
    none_padded c.args.bytes.now _ _ c.requires.some c.requires.zero c.cut.ensures
    (sym c.is.ensures ∙ c.if-not-is.true)

pub returns : goal.returns
returns c =
    first_some c.args.bytes.now c.cut.result.0.now (words_after c.cut.result.1) 0 c.cut.ensures
    (some_zero c.cut.result.0.now (sym c.is.ensures ∙ c.if-not-is.false))
