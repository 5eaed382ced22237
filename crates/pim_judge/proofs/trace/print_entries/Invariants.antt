use Rattle.std.proofs.Common.{◌≡◌, ◌++◌, drop}
use Rattle.std.specs.List.{flat_map}
use Rattle.pim_page.specs.Ends.{Puts}
use Rattle.pim_page.specs.Printed.{entry_text}
use Rattle.pim_judge.proofs.trace.print_entries.Given as goal

-- all is written but the page and the lines of the other entries
abbrev pub invariant-loop-entry : goal.invariant-loop-entry
invariant-loop-entry g l = record {
  same_writer : l.printer.writer.ghost_name ≡ l.fn.printer.writer.ghost_name;
  put : Puts (g.W.Sink.told l.fn.printer.writer.now) (g.W.Sink.told l.printer.writer.now)
      (l.fn.printer.page.now ++ flat_map entry_text l.entries)
      (l.printer.page.now ++ flat_map entry_text (drop l.entry-index l.entries));
}
