use Rattle.std.proofs.Common.{None}
use Rattle.pim_text.proofs.WordLemmas.{cut_some, cut_none}
use Rattle.pim_text.proofs.LineLemmas.{no_single}
use Rattle.pim_text.proofs.SpellingLemmas.{bytes_read}
use Rattle.pim_text.proofs.line.read_line.Goals as goal

pub returns-in_err-rest : goal.returns-in_err-rest
returns-in_err-rest c =
    let one = cut_none _ _ _ c.in-Some.ensures.1 c.in_err-rest.was in
    rw c.from_residual.ensures (bytes_read c.args.bytes.now _ None one (no_single _))

pub returns-in-Some : goal.returns-in-Some
returns-in-Some c =
    bytes_read c.args.bytes.now _ _ (cut_some _ _ _ _ c.in-Some.ensures.1 c.in_ok-rest.was) c.read_step.ensures

pub returns-in_err-rest-2 : goal.returns-in_err-rest-2
returns-in_err-rest-2 c =
    rw c.from_residual-in_err-rest-2.ensures
    (let one = cut_none _ _ _ c.cut.ensures.parts c.in_err-rest-2.was in
    bytes_read c.args.bytes.now _ None one (no_single c.cut.result.0.now))

pub returns : goal.returns
returns c =
    bytes_read c.args.bytes.now _ _ (cut_some _ _ _ _ c.cut.ensures.parts c.in_ok-rest-2.was) c.read_declaration.ensures
