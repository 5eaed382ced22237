use Rattle.std.proofs.Common.{sym, ◌∙◌}
use Rattle.std.proofs.lemmas.List.{take_rest}
use Rattle.pim_text.proofs.CutLemmas.{split_at_place, split_nowhere}
use Rattle.pim_text.proofs.word.cut.Goals as goal

pub returns-in-Some-clause-parts : goal.returns-in-Some-clause-parts
returns-in-Some-clause-parts c =
    rw take_rest (split_at_place _ c.args.bytes.now c.in-Some.place (sym c.place_of.ensures ∙ c.in-Some.is))

pub returns-in-None-clause-parts : goal.returns-in-None-clause-parts
returns-in-None-clause-parts c = split_nowhere _ c.args.bytes.now (sym c.place_of.ensures ∙ c.in-None.is)
