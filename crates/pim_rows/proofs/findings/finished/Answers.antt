use Rattle.std.proofs.Common.{◌≡◌, sym, ◌∙◌}
use Rattle.pim_rows.specs.Rows.{status_of}
use Rattle.pim_rows.proofs.Underway.{one, none}
use Rattle.pim_rows.proofs.findings.finished.Goals as goal
use Rattle.pim_rows.proofs.findings.finished.Goals.{then-is_bad, else-is_bad}

pub finish-requires : goal.finish-requires
finish-requires c = c.requires

pub returns : goal.returns
returns c ms tracks =
    let found = c.in_ok-rows.ensures ms tracks in
    let status : c.if-is_bad.result ≡ status_of ms =
    elim c.if-is_bad.branch [
      | then-is_bad w ↦ w.result-is ∙ sym (one ms _ found.1 w.if-is_bad.true)
      | else-is_bad w ↦ w.result-is ∙ sym (none ms _ found.1 w.if-is_bad.false)
    ] in
    record { rows = found.0; status = status }
