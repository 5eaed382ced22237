use Rattle.std.proofs.Common.{sym, ◌∙◌}
use Rattle.std.proofs.lemmas.List.{take_rest}
use Rattle.pim_fact_lines.proofs.Cuts.{split_at_place, split_nowhere}
use Rattle.pim_fact_lines.proofs.word.cut.Goals as goal

pub returns-in-Some : goal.returns-in-Some
returns-in-Some c =
    rw take_rest
    (split_at_place _ c.args.bytes.now c.in-Some.place (sym c.place_of.ensures ∙ c.in-Some.is))

pub returns-in-None : goal.returns-in-None
returns-in-None c = split_nowhere _ c.args.bytes.now (sym c.place_of.ensures ∙ c.in-None.is)
