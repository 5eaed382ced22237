use Rattle.std.proofs.Common.{rules, ◌≡◌, refl}
use Rattle.pim_base.specs.Reports.{report_of}
use Rattle.pim_text.specs.Reading.{trace_of}
use Rattle.pim_page.specs.Ends.{Puts}
use Rattle.pim_judge.proofs.PrintingLemmas.{prints_err, stops_memory, puts_none, puts_page, stops_page}
use Rattle.pim_judge.proofs.judging.print_text.Goals as goal

pub returns-in_err-page-clause-prints : goal.returns-in_err-page-clause-prints
returns-in_err-page-clause-prints g c =
    prints_err _ _ c.from_residual.ensures.1
    (stops_memory refl (puts_none {bytes = report_of (trace_of c.args.text.now)} refl))

pub returns-in_err-manager-clause-prints : goal.returns-in_err-manager-clause-prints
returns-in_err-manager-clause-prints g c =
    prints_err _ _ c.from_residual-in_err-manager.ensures.1
    (stops_memory c.in_err-manager.ensures (puts_none {bytes = report_of (trace_of c.args.text.now)} refl))

pub returns-in_err-write-clause-prints : goal.returns-in_err-write-clause-prints
returns-in_err-write-clause-prints g c =
    let told : g.W.Sink.told c.writer-2-1.given.0 ≡ g.W.Sink.told c.write.new.self.writer.now = search rules in
    let report = c.make_steps.new.report in
    let first :
    Puts (g.W.Sink.told c.args.writer.now) (g.W.Sink.told report.writer.now)
    (report_of (trace_of c.args.text.now)) report.page.now =
    search rules in
    prints_err _ _ c.from_residual-in_err-write.ensures.1
    (rw told (stops_page _ first c.in_err-write.ensures.takes.prints))

pub returns-clause-prints : goal.returns-clause-prints
returns-clause-prints g c =
    let told : g.W.Sink.told c.writer-2-1.given.0 ≡ g.W.Sink.told c.write.new.self.writer.now = search rules in
    let report = c.make_steps.new.report in
    let first :
    Puts (g.W.Sink.told c.args.writer.now) (g.W.Sink.told report.writer.now)
    (report_of (trace_of c.args.text.now)) report.page.now =
    search rules in
    rw (told, ← c.in_ok-write.ensures.all) (puts_page _ first c.in_ok-write.ensures.takes.prints)
