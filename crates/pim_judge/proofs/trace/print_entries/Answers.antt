use Rattle.std.proofs.Common.{◌∙◌}
use Rattle.pim_judge.proofs.PrintingLemmas.{prints_err, stops_next, puts_next}
use Rattle.pim_judge.proofs.TraceLineLemmas.{entries_next}
use Rattle.pim_judge.proofs.trace.print_entries.Goals as goal

pub returns-in_err-print_entry : goal.returns-in_err-print_entry
returns-in_err-print_entry g c =
    let next = entries_next c.args.entries.now c.loop-entry.entry-index _ c.loop-entry-test.true c.entry-item.is in
    record {
      same_writer = c.print_entry.ensures.same_writer ∙ c.loop-entry.invariant.same_writer;
      prints =
          prints_err _ _ c.from_residual.ensures.1
          (stops_next _ _ _ _ next c.loop-entry.invariant.put c.in_err-print_entry.ensures.prints);
    }

pub loop-entry-preserved : goal.loop-entry-preserved
loop-entry-preserved g c =
    let next = entries_next c.args.entries.now c.loop-entry.entry-index _ c.loop-entry-test.true c.entry-item.is in
    record {
      same_writer = c.print_entry.ensures.same_writer ∙ c.loop-entry.invariant.same_writer;
      put = puts_next _ _ _ _ next c.loop-entry.invariant.put c.in_ok-print_entry.ensures.prints;
    }
