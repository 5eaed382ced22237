use Rattle.std.proofs.Common.{◌∙◌, ◌-◌, sym, ap}
use Rattle.pim_rows.specs.Tallies.{with_time}
use Rattle.pim_rows.proofs.Waiting.{tally-followed}
use Rattle.pim_rows.proofs.open_wait.OpenWait.close.Goals as goal

pub returns-clause-ended : goal.returns-clause-ended
returns-clause-ended c t ms m follows later at =
    let w = c.args.self in
    c.in_ok-with_time.ensures
    ∙ ap (λ n. with_time w.standing (n - w.since) w.tally) (sym at)
    ∙ sym (tally-followed w t ms m follows later)
