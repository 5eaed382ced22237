use Rattle.std.proofs.Common.{◌≡◌, ◌∙◌, sym, ap, true, is_some, unwrap_or, None}
use Rattle.pim_base.specs.Lists.{nth}
use Rattle.std.proofs.lemmas.Option.{same_Some}
use Rattle.pim_base.specs.State.{State, wait_of}
use Rattle.pim_world.specs.Worlds.{World}
use Rattle.pim_rows.specs.Moments.{now}
use Rattle.pim_rows.specs.Kept.{kept_of}
use Rattle.pim_world.specs.Standing.{waits}
use Rattle.pim_world.proofs.Fronts.{is_some-option_map}
use Rattle.pim_rows.proofs.StillKept.{kept_here, left_after, puts_lasting}
use Rattle.pim_rows.proofs.lasting.put_lasting_wait.Goals as goal

pub returns-in_err-put_wait-clause-left : goal.returns-in_err-put_wait-clause-left
returns-in_err-put_wait-clause-left c =
    λ t w. left_after _ _ c.thread.inside.0 t w c.take.ensures.gone c.take.ensures.others

pub returns-clause-left : goal.returns-clause-left
returns-clause-left c =
    λ t w. left_after _ _ c.thread.inside.0 t w c.take.ensures.gone c.take.ensures.others

pub returns-clause-rows : goal.returns-clause-rows
returns-clause-rows c ms w are each =
    let t = c.args.thread in
    let lasts : true ≡ waits t (now ms) =
    sym c.if-is_none.ensures ∙ sym (is_some-option_map _ c.awaited.result)
    ∙ ap is_some (c.awaited.ensures ∙ ap (λ (S : State). wait_of S t) c.waits.ensures
    ∙ ap (λ (w : World). wait_of w.state t) w) in
    let follows = each t c.in-Some-take.open (kept_here _ c.in-Some-take.open
    (c.in-Some-take.ensures.here
    ∙ ap (λ k. unwrap_or (nth c.args.opens.now.opens.items k) None) c.thread.view_is)) in
    puts_lasting ms t c.in-Some.start c.in_ok-times.times c.args.out.now.items _ _ lasts
    (same_Some _ _ (c.in-Some.ensures
    ∙ ap (kept_of c.args.starts.now.starts) c.thread.view_is ∙ are t (sym lasts)))
    (c.in_ok-times.ensures.lasting t ms follows
    (sym (c.clock.ensures ∙ ap (λ (w : World). w.clock) w)))
    (c.in_ok-put_wait.ensures ms (sym (c.clock-2.ensures ∙ ap (λ (w : World). w.clock) w)))
    c.one_if_inverted.ensures
