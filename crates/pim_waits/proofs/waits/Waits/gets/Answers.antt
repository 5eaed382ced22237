use Rattle.std.proofs.Common.{◌≡◌, ◌∙◌, ap, unwrap_or}
use Rattle.pim_base.specs.Lists.{nth}
use Rattle.pim_waits.specs.Flow.{level_at}
use Rattle.pim_waits.specs.Waiting.{gets}
use Rattle.pim_waits.proofs.Settling.{kept_gets}
use Rattle.pim_waits.proofs.waits.Waits.gets.Goals as goal

pub returns : goal.returns
returns c =
    let levels = c.self.inside.gets.items in
    let t = c.args.thread in
    let kept : level_at levels t ≡ gets c.self.inside.facts t =
    kept_gets c.self.inside.facts
    levels t c.self.invariant.whole c.self.invariant.len c.self.invariant.flows in
    c.unwrap_or.ensures ∙ ap (unwrap_or c.nth.result) c.lowest.ensures
    ∙ ap (λ o. unwrap_or o 0) (c.nth.ensures ∙ ap
    (λ ls. nth ls c.thread.inside.0) c.deref.ensures.value ∙ ap (nth levels) c.thread.view_is)
    ∙ kept ∙ ap (λ S. gets S t) c.self.view_is
