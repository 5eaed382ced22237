use Rattle.std.proofs.Common.{ap, ap₂, ◌∙◌}
use Rattle.std.proofs.lemmas.Result.{err_from_is_err_and}
use Rattle.clap.specs.Takes.{takes}
use Rattle.pim_tool.specs.Words.{job_named}
use Rattle.pim_tool.proofs.CommandLemmas.{none_is, judge_is, run_is, check_is, explain_is}
use Rattle.pim_tool.proofs.CommandLemmas.{flag_none, flag_judge, flag_run, flag_check, flag_explain}
use Rattle.pim_tool.proofs.CommandLemmas.{takes_none, takes_judge, takes_run, takes_check, takes_explain}
use Rattle.pim_tool.proofs.CommandLemmas.{job_of_matches, flag_of_matches}
use Rattle.pim_tool.proofs.command_line.parse_arguments.Goals as goal

pub returns-in_err-matches-clause-none : goal.returns-in_err-matches-clause-none
returns-in_err-matches-clause-none c = λ name e.
    let p = err_from_is_err_and c.from_residual-in_err-matches.result c.from_residual-in_err-matches.ensures.1 in
    let memory = c.in_err-matches.ensures.passes (ap₂ takes c.in_ok-pim.ensures e ∙ takes_none name) in
    rw (p.1, p.2) memory

pub returns-clause-none : goal.returns-clause-none
returns-clause-none c = λ name e. (
  c.job_of.ensures
      ∙ ap job_named c.subcommand_name.ensures
      ∙ job_of_matches _ _ _ c.in_ok-matches.matches c.in_ok-pim.ensures e c.in_ok-matches.ensures.matches
      ∙ none_is name,
  c.get_flag.ensures.other
      (flag_of_matches _ _ _ c.in_ok-matches.matches c.in_ok-pim.ensures e c.in_ok-matches.ensures.matches
      ∙ flag_none name),
)

pub returns-in_err-matches-clause-judge : goal.returns-in_err-matches-clause-judge
returns-in_err-matches-clause-judge c = λ name e.
    let p = err_from_is_err_and c.from_residual-in_err-matches.result c.from_residual-in_err-matches.ensures.1 in
    let memory = c.in_err-matches.ensures.passes (ap₂ takes c.in_ok-pim.ensures e ∙ takes_judge name) in
    rw (p.1, p.2) memory

pub returns-clause-judge : goal.returns-clause-judge
returns-clause-judge c = λ name e. (
  c.job_of.ensures
      ∙ ap job_named c.subcommand_name.ensures
      ∙ job_of_matches _ _ _ c.in_ok-matches.matches c.in_ok-pim.ensures e c.in_ok-matches.ensures.matches
      ∙ judge_is name,
  c.get_flag.ensures.other
      (flag_of_matches _ _ _ c.in_ok-matches.matches c.in_ok-pim.ensures e c.in_ok-matches.ensures.matches
      ∙ flag_judge name),
)

pub returns-in_err-matches-clause-run : goal.returns-in_err-matches-clause-run
returns-in_err-matches-clause-run c = λ name e.
    let p = err_from_is_err_and c.from_residual-in_err-matches.result c.from_residual-in_err-matches.ensures.1 in
    let memory = c.in_err-matches.ensures.passes (ap₂ takes c.in_ok-pim.ensures e ∙ takes_run name) in
    rw (p.1, p.2) memory

pub returns-clause-run : goal.returns-clause-run
returns-clause-run c = λ name e. (
  c.job_of.ensures
      ∙ ap job_named c.subcommand_name.ensures
      ∙ job_of_matches _ _ _ c.in_ok-matches.matches c.in_ok-pim.ensures e c.in_ok-matches.ensures.matches
      ∙ run_is name,
  c.get_flag.ensures.other
      (flag_of_matches _ _ _ c.in_ok-matches.matches c.in_ok-pim.ensures e c.in_ok-matches.ensures.matches
      ∙ flag_run name),
)

pub returns-in_err-matches-clause-check : goal.returns-in_err-matches-clause-check
returns-in_err-matches-clause-check c = λ name e.
    let p = err_from_is_err_and c.from_residual-in_err-matches.result c.from_residual-in_err-matches.ensures.1 in
    let memory = c.in_err-matches.ensures.passes (ap₂ takes c.in_ok-pim.ensures e ∙ takes_check name) in
    rw (p.1, p.2) memory

pub returns-clause-check : goal.returns-clause-check
returns-clause-check c = λ name e. (
  c.job_of.ensures
      ∙ ap job_named c.subcommand_name.ensures
      ∙ job_of_matches _ _ _ c.in_ok-matches.matches c.in_ok-pim.ensures e c.in_ok-matches.ensures.matches
      ∙ check_is name,
  c.get_flag.ensures.other
      (flag_of_matches _ _ _ c.in_ok-matches.matches c.in_ok-pim.ensures e c.in_ok-matches.ensures.matches
      ∙ flag_check name),
)

pub returns-in_err-matches-clause-explain : goal.returns-in_err-matches-clause-explain
returns-in_err-matches-clause-explain c = λ name e.
    let p = err_from_is_err_and c.from_residual-in_err-matches.result c.from_residual-in_err-matches.ensures.1 in
    let memory = c.in_err-matches.ensures.passes (ap₂ takes c.in_ok-pim.ensures e ∙ takes_explain name) in
    rw (p.1, p.2) memory

pub returns-clause-explain : goal.returns-clause-explain
returns-clause-explain c = λ name e. (
  c.job_of.ensures
      ∙ ap job_named c.subcommand_name.ensures
      ∙ job_of_matches _ _ _ c.in_ok-matches.matches c.in_ok-pim.ensures e c.in_ok-matches.ensures.matches
      ∙ explain_is name,
  c.get_flag.ensures.value
      (flag_of_matches _ _ _ c.in_ok-matches.matches c.in_ok-pim.ensures e c.in_ok-matches.ensures.matches
      ∙ flag_explain name),
)
