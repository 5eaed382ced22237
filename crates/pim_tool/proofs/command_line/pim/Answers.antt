use Rattle.std.proofs.Common.{rules, ap, ap₂, ◌∙◌, ◌≡◌, true, false, Some, codes}
use Rattle.std.proofs.lemmas.Result.{IfOk-weaker}
use Rattle.clap.specs.Walk.{Rule, rule_of}
use Rattle.clap.specs.Simple.{App, Shape, on_top, with_rule, with_subcommand, app_of_fields}
use Rattle.clap.specs.declared.builder.arg.Arg.{Arg}
use Rattle.clap.specs.declared.builder.action.ArgAction.TheVariants.{SetTrue}
use Rattle.pim_tool.specs.Words.{explain_rule}
use Rattle.pim_tool.proofs.command_line.pim.Goals as goal

-- the option and each subcommand are added with their shapes, and the other settings add only the version
pub returns : goal.returns
returns c =
    let rule : rule_of c.action-explain.result ≡ explain_rule =
    ap rule_of c.action-explain.ensures
    ∙ ap (λ (a : Arg). rule_of (record a { action = Some SetTrue })) c.help.ensures
    ∙ ap (λ (a : Arg). rule_of (record a { action = Some SetTrue })) c.long.ensures
    ∙ ap (λ (r : Rule). record r { long = Some (codes "explain"); action = Some SetTrue }) c.new.ensures.rule in
    let local : c.action-explain.result.global ≡ false =
    ap (λ (a : Arg). a.global) c.action-explain.ensures
    ∙ ap (λ (a : Arg). a.global) c.help.ensures
    ∙ ap (λ (a : Arg). a.global) c.long.ensures
    ∙ c.new.ensures.optional.1 in
    IfOk-weaker c.subcommand-3.result _ _ (λ command adds.
    adds.shape (search rules)
    ∙ ap₂ with_subcommand
    (c.in_ok-subcommand-2.ensures.shape (search rules)
    ∙ ap₂ with_subcommand
    (c.in_ok-subcommand.ensures.shape (search rules)
    ∙ ap₂ with_subcommand
    (c.in_ok-arg.ensures.shape local
    ∙ ap₂ with_rule
    (ap app_of_fields c.after_help.ensures
    ∙ ap app_of_fields c.version.ensures
    ∙ ap (on_top (λ (s : Shape). record s { has_version = true }))
    (ap app_of_fields c.about.ensures ∙ c.new-5.ensures.app))
    rule)
    (ap (λ (a : App). a.top) (ap app_of_fields c.about-judge.ensures ∙ c.new-2.ensures.app)))
    (ap (λ (a : App). a.top) (ap app_of_fields c.about-run.ensures ∙ c.new-3.ensures.app)))
    (ap (λ (a : App). a.top) (ap app_of_fields c.about-check.ensures ∙ c.new-4.ensures.app)))
    c.subcommand-3.ensures
