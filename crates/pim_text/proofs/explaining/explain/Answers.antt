use Rattle.std.proofs.Common.{◌∙◌, sym, inr, None, Some}
use Rattle.std.proofs.lemmas.Bool.{eqb-true}
use Rattle.pim_base.specs.Texts.{lines_of}
use Rattle.pim_text.specs.Reading.{trace_of}
use Rattle.pim_text.proofs.PlaceLemmas.{no_lines}
use Rattle.pim_text.proofs.explaining.explain.Goals as goal

pub returns-then-is_empty : goal.returns-then-is_empty
returns-then-is_empty c =
    let place = c.in-Some.place in
    let none = no_lines place.before.now (eqb-true _ _ (sym c.is_empty.ensures ∙ c.if-is_empty.true)) in
    inr (lines_of place.before.now, place.line.now, None, c.in-Some.ensures, none, c.of_first_line.ensures c.args.kind)

pub returns-in-Ok : goal.returns-in-Ok
returns-in-Ok c =
    let place = c.in-Some.place in
    inr (
      lines_of place.before.now,
      place.line.now,
      Some (trace_of c.in-Ok.before),
      c.in-Some.ensures,
      c.in-Ok.ensures,
      c.of_next_line.ensures,
    )
