use Rattle.std.proofs.Common.{ap, rules}
use Rattle.std.proofs.lemmas.Result.{err_from_is_err_and}
use Rattle.pim_base.specs.Recordings.{IsRunOf}
use Rattle.pim_text.specs.Reading.{trace_of}
use Rattle.pim_judge.specs.Printed.{verdict_line}
use Rattle.pim_tool.specs.Running.{IsEndOfReport, call}
use Rattle.pim_tool.proofs.RunningLemmas.{few_entries, run_verdict, put_ok, stopped_err, verdict_ok}
use Rattle.pim_tool.proofs.running.check.Goals as goal

pub judge_entries-verdict-requires : goal.judge_entries-verdict-requires
judge_entries-verdict-requires g c =
    let run : IsRunOf (trace_of c.in_ok-script.script) c.entries.result.now = search rules in
    record {
      few = few_entries (trace_of c.in_ok-script.script) c.entries.result.now c.in_ok-script.ensures.runnable run;
    }

pub returns-in_err-print_verdict-clause-fault : goal.returns-in_err-print_verdict-clause-fault
returns-in_err-print_verdict-clause-fault g c =
    let script = trace_of c.in_ok-script.script in
    let run : IsRunOf script c.entries.result.now = search rules in
    let is =
    run_verdict script c.entries.result.now _ _ c.in_ok-script.ensures.runnable run c.in_ok-manager.ensures
    c.judge_entries-verdict.ensures in
    let ends =
    call g.R.Source.remaining g.R.Source.failures g.W.Sink.told c.args.reader.now c.read_script.new.reader
    c.args.writer.now c.print_verdict.new.writer in
    let p =
    err_from_is_err_and c.from_residual-in_err-print_verdict.result c.from_residual-in_err-print_verdict.ensures.1 in
    rw (p.1, p.2)
    (stopped_err IsEndOfReport ends script _ _ c.in_ok-script.ensures.ok (ap verdict_line is)
    c.in_err-print_verdict.ensures)

pub returns-clause-ok : goal.returns-clause-ok
returns-clause-ok g c =
    let script = trace_of c.in_ok-script.script in
    let run : IsRunOf script c.entries.result.now = search rules in
    let is =
    run_verdict script c.entries.result.now _ _ c.in_ok-script.ensures.runnable run c.in_ok-manager.ensures
    c.judge_entries-verdict.ensures in
    let ends =
    call g.R.Source.remaining g.R.Source.failures g.W.Sink.told c.args.reader.now c.read_script.new.reader
    c.args.writer.now c.print_verdict.new.writer in
    put_ok IsEndOfReport ends script _ c.in_ok-script.ensures.ok (ap verdict_line is) c.in_ok-print_verdict.ensures

pub returns-clause-verdict : goal.returns-clause-verdict
returns-clause-verdict g c =
    let script = trace_of c.in_ok-script.script in
    let run : IsRunOf script c.entries.result.now = search rules in
    let is =
    run_verdict script c.entries.result.now _ _ c.in_ok-script.ensures.runnable run c.in_ok-manager.ensures
    c.judge_entries-verdict.ensures in
    verdict_ok script _ _ c.in_ok-script.ensures.ok is
