use Rattle.std.proofs.Common.{◌≡◌, Some, sym, ap, ◌∙◌}
use Rattle.pim_world.specs.Worlds.{World}
use Rattle.pim_world.specs.Texts.{line_after}
use Rattle.pim_rows.specs.Moments.{now}
use Rattle.pim_rows.proofs.Underway.{may}
use Rattle.pim_rows.proofs.tracker.Tracker.take.Goals as goal

pub returns : goal.returns
returns c ms tracks =
    let line = c.in-Ok.line in
    let is : line_after (now ms) c.args.bytes.now ≡ Some line =
    ap (λ (w : World). line_after w c.args.bytes.now) (sym tracks.world) ∙ c.in-Ok.ensures in
    (line, is, c.in_ok-step.ensures ms tracks (may (now ms) c.args.bytes.now line is))
