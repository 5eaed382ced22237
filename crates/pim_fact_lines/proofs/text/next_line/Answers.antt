use Rattle.std.proofs.lemmas.List.{take_rest}
use Rattle.pim_fact_lines.proofs.LineEnds.{line_ended, last_line}
use Rattle.pim_fact_lines.proofs.text.next_line.Goals as goal

pub returns-in-Some-clause-lines : goal.returns-in-Some-clause-lines
returns-in-Some-clause-lines c =
    rw take_rest
    (line_ended c.args.bytes.now c.in-Some.place c.in-Some.ensures.0 c.in-Some.ensures.1)

pub returns-in-None-clause-lines : goal.returns-in-None-clause-lines
returns-in-None-clause-lines c = last_line c.args.bytes.now c.requires c.in-None.ensures
