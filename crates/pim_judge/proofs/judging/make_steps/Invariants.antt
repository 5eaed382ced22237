use Rattle.std.proofs.Common.{◌≡◌, ◌++◌, ◌+◌, drop}
use Rattle.pim_base.specs.Reports.{report_from, verdict_from}
use Rattle.pim_page.specs.Ends.{Puts}
use Rattle.pim_judge.proofs.judging.make_steps.Given as goal

-- all is written but the page and the report of the other lines, and that report has the same verdict
abbrev pub invariant-loop-index : goal.invariant-loop-index
invariant-loop-index g l = record {
  same_writer : l.report.writer.ghost_name ≡ l.fn.report.writer.ghost_name;
  put : Puts (g.W.Sink.told l.fn.report.writer.now) (g.W.Sink.told l.report.writer.now)
      (l.fn.report.page.now ++ report_from 1 l.fn.manager.state l.lines)
      (l.report.page.now ++ report_from (l.index + 1) l.manager.state (drop l.index l.lines));
  verdict : verdict_from (l.index + 1) l.manager.state (drop l.index l.lines) ≡ verdict_from 1 l.fn.manager.state l.lines;
}
