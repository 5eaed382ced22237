use Rattle.std.proofs.Common.{◌∙◌, ap}
use Rattle.std.proofs.lemmas.Result.{err_from_is_err_and}
use Rattle.pim_shared.specs.Gathered.{lines}
use Rattle.pim_text.specs.Reading.{trace_of}
use Rattle.pim_tool.proofs.RunningLemmas.{gathered_run}
use Rattle.pim_tool.proofs.running.log_of_run.Goals as goal

pub returns-in_err-gather-clause-fault : goal.returns-in_err-gather-clause-fault
returns-in_err-gather-clause-fault g c =
    let p = err_from_is_err_and c.from_residual-in_err-gather.result c.from_residual-in_err-gather.ensures.1 in
    rw (p.1, p.2) tt

pub returns-clause-ok : goal.returns-clause-ok
returns-clause-ok g c =
    gathered_run (trace_of c.args.script.now) _ _ _ _ _ c.in_ok-gather.ensures c.in_ok-start.ensures
    (ap lines c.deref-2.ensures.value ∙ c.in_ok-scripts.ensures.scripts) c.in_ok-log.ensures.run.1
