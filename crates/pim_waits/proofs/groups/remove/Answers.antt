use Rattle.std.proofs.Common.{rules, ◌==◌, not}
use Rattle.std.proofs.lemmas.Fn.{filter_same}
use Rattle.pim_waits.proofs.groups.remove.Goals as goal

pub returns : goal.returns
returns c =
    filter_same _ (λ other. not (other == c.args.number)) _
    (λ x b f' k. search rules) _ _ c.retain.ensures.filtered
