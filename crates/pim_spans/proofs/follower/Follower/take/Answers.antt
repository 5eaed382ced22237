use Rattle.std.proofs.Common.{◌≡◌, Some, sym, ap, ◌∙◌}
use Rattle.pim_world.specs.Worlds.{World}
use Rattle.pim_world.specs.Texts.{line_after}
use Rattle.pim_rows.specs.Moments.{now}
use Rattle.pim_spans.proofs.follower.Follower.take.Goals as goal

pub returns-clause-taken : goal.returns-clause-taken
returns-clause-taken c ms follows =
    let line = c.in-Ok.line in
    let is : line_after (now ms) c.args.bytes.now ≡ Some line =
    ap (λ (w : World). line_after w c.args.bytes.now) (sym follows.world) ∙ c.in-Ok.ensures in
    (line, is, c.in_ok-step.ensures.follows ms follows)
