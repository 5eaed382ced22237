use Rattle.std.proofs.Common.{◌≡◌, true, false, sym, ◌∙◌, ap, is_some}
use Rattle.pim_base.specs.State.{State, owner_of}
use Rattle.pim_world.specs.Worlds.{World}
use Rattle.pim_rows.specs.Moments.{now, began, followed_by}
use Rattle.pim_rows.specs.Begun.{is_owned}
use Rattle.pim_rows.specs.Found.{put_section}
use Rattle.pim_rows.proofs.Ended.{sections_after}
use Rattle.pim_rows.proofs.sections.end_section.Goals as goal

pub returns : goal.returns
returns c ms l w at was are off old =
    let m = c.in-Some.mutex in
    let owned : is_owned m (now ms) ≡ true = sym (was m c.in-Some.is) ∙ c.if-not-was.false in
    c.in_ok-put_section.ensures (began (is_owned m) ms) (followed_by ms l) w (are m owned) off
    ∙ ap (put_section m (began (is_owned m) ms) (followed_by ms l)) old
    ∙ sym (sections_after ms l m true false (sym at ∙ c.in-Some.is) owned
    (sym (c.if-is_some.ensures ∙ ap is_some (c.owner.ensures ∙ ap
    (λ (S : State). owner_of S m) c.waits.ensures ∙ ap (λ (w : World). owner_of w.state m) w))))
