use Rattle.std.proofs.Common.{refl, rules}
use Rattle.pim_base.specs.Recordings.{IsRunOf}
use Rattle.pim_text.specs.Reading.{trace_of}
use Rattle.pim_tool.specs.Running.{IsTraceOfRun, call}
use Rattle.pim_tool.proofs.RunningLemmas.{printed_ok, printed_err}
use Rattle.pim_tool.proofs.running.run.Goals as goal

pub returns-clause-ok : goal.returns-clause-ok
returns-clause-ok g c =
    let run : IsRunOf (trace_of c.in_ok-script.script) c.entries.result.now = search rules in
    let ends =
    call g.R.Source.remaining g.R.Source.failures g.W.Sink.told c.args.reader.now c.read_script.new.reader
    c.args.writer.now c.print_trace.new.writer in
    printed_ok IsTraceOfRun ends (trace_of c.in_ok-script.script) _ c.print_trace.result c.in_ok-script.ensures.ok
    (c.entries.result.now, run, refl) c.print_trace.ensures

pub returns-clause-fault : goal.returns-clause-fault
returns-clause-fault g c =
    let run : IsRunOf (trace_of c.in_ok-script.script) c.entries.result.now = search rules in
    let ends =
    call g.R.Source.remaining g.R.Source.failures g.W.Sink.told c.args.reader.now c.read_script.new.reader
    c.args.writer.now c.print_trace.new.writer in
    printed_err IsTraceOfRun ends (trace_of c.in_ok-script.script) _ c.print_trace.result c.in_ok-script.ensures.ok
    (c.entries.result.now, run, refl) c.print_trace.ensures
