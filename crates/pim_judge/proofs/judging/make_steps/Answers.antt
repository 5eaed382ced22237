use Rattle.std.proofs.Common.{◌≡◌, length, arith, ◌∙◌, sym, refl}
use Rattle.pim_judge.proofs.PrintingLemmas.{prints_err, stops_next, puts_next, puts_last}
use Rattle.pim_judge.proofs.ReportLemmas.{report_next, verdict_next, report_end}
use Rattle.pim_judge.proofs.judging.make_steps.Goals as goal

pub returns-in_err-make_step-clause-report : goal.returns-in_err-make_step-clause-report
returns-in_err-make_step-clause-report g c =
    let next =
    report_next _ _ _ c.args.lines.now c.loop-index.index _ _ c.loop-index-test.true c.index-lines-index.is
    c.make_step.ensures.after refl in
    record {
      same_writer = c.make_step.ensures.report.same_writer ∙ c.loop-index.invariant.same_writer;
      prints =
          prints_err _ _ c.from_residual.ensures.1
          (stops_next _ _ _ _ next c.loop-index.invariant.put c.in_err-make_step.ensures.report.prints);
    }

pub returns-then-not-branch-clause-report : goal.returns-then-not-branch-clause-report
returns-then-not-branch-clause-report g c =
    let says = sym c.if-not-branch.true ∙ c.in_ok-make_step.ensures.agrees in
    let next =
    report_next _ _ _ c.args.lines.now c.loop-index.index _ _ c.loop-index-test.true c.index-lines-index.is
    c.make_step.ensures.after says in
    record {
      same_writer = c.make_step.ensures.report.same_writer ∙ c.loop-index.invariant.same_writer;
      prints = puts_last _ _ _ next c.loop-index.invariant.put c.in_ok-make_step.ensures.report.prints;
    }

pub returns-then-not-branch-clause-verdict : goal.returns-then-not-branch-clause-verdict
returns-then-not-branch-clause-verdict g c =
    let says = sym c.if-not-branch.true ∙ c.in_ok-make_step.ensures.agrees in
    let next =
    verdict_next _ _ _ c.args.lines.now c.loop-index.index _ _ c.loop-index-test.true c.index-lines-index.is
    c.make_step.ensures.after says in
    sym next ∙ c.loop-index.invariant.verdict

pub loop-index-preserved : goal.loop-index-preserved
loop-index-preserved g c =
    let says = sym c.if-not-branch.false ∙ c.in_ok-make_step.ensures.agrees in
    let next =
    report_next _ _ _ c.args.lines.now c.loop-index.index _ _ c.loop-index-test.true c.index-lines-index.is
    c.make_step.ensures.after says in
    let judged =
    verdict_next _ _ _ c.args.lines.now c.loop-index.index _ _ c.loop-index-test.true c.index-lines-index.is
    c.make_step.ensures.after says in
    record {
      same_writer = c.make_step.ensures.report.same_writer ∙ c.loop-index.invariant.same_writer;
      put = puts_next _ _ _ _ next c.loop-index.invariant.put c.in_ok-make_step.ensures.report.prints;
      verdict = sym judged ∙ c.loop-index.invariant.verdict;
    }

pub returns-in_err-accepted-clause-report : goal.returns-in_err-accepted-clause-report
returns-in_err-accepted-clause-report g c =
    let done : c.loop-index.index ≡ length c.args.lines.now = omega arith in
    let last = report_end _ c.args.lines.now c.loop-index.index done in
    record {
      same_writer = c.accepted.ensures.same_writer ∙ c.loop-index.invariant.same_writer;
      prints = prints_err _ _ c.from_residual-in_err-accepted.ensures.1
          (stops_next _ _ _ _ last c.loop-index.invariant.put c.in_err-accepted.ensures.prints);
    }

pub returns-clause-report : goal.returns-clause-report
returns-clause-report g c =
    let done : c.loop-index.index ≡ length c.args.lines.now = omega arith in
    let last = report_end _ c.args.lines.now c.loop-index.index done in
    record {
      same_writer = c.accepted.ensures.same_writer ∙ c.loop-index.invariant.same_writer;
      prints = puts_last _ _ _ last c.loop-index.invariant.put c.in_ok-accepted.ensures.prints;
    }
