use Rattle.std.proofs.Common.{true, false, refl, sym, ◌∙◌, ap, is_some, Some, Option, ℕ}
use Rattle.std.specs.Option.{option_map_or}
use Rattle.pim_base.specs.State.{State, wait_of, owner_of}
use Rattle.pim_base.specs.declared.steps.Wait.{Wait}
use Rattle.pim_waits.specs.Waiting.{gets}
use Rattle.pim_world.specs.Worlds.{World}
use Rattle.pim_world.specs.After.{after, set}
use Rattle.pim_rows.specs.Moments.{now, followed_by}
use Rattle.pim_rows.specs.Begun.{grant_line, WaitStart, wait_start, wait_at}
use Rattle.pim_rows.specs.Kept.{kept_of}
use Rattle.pim_rows.proofs.Following.{waits_followed}
use Rattle.pim_rows.proofs.wait_starts.WaitStarts.follow.Goals as goal

pub returns-then-was : goal.returns-then-was
returns-then-was c ms l w line thread was got grants are =
    waits_followed wait_start ms l
    (kept_of c.args.self.now.starts) (kept_of c.args.self.now.starts) c.in-Some.thread true _
    (sym thread ∙ c.in-Some.is)
    (sym c.if-was.true ∙ was c.in-Some.thread c.in-Some.is) refl refl are

pub returns-in_default-awaited : goal.returns-in_default-awaited
returns-in_default-awaited c ms l w line thread was got grants are =
    let t = c.in-Some.thread in
    waits_followed wait_start ms l
    (kept_of c.args.self.now.starts) (kept_of c.args.self.now.starts) t false false
    (sym thread ∙ c.in-Some.is) (sym c.if-was.false ∙ was t c.in-Some.is)
    (ap is_some
    (c.in_default-awaited.ensures ∙ ap (λ (S : State). wait_of S t) c.waits.ensures
    ∙ ap (λ (w : World). wait_of w.state t) w))
    refl are

pub returns : goal.returns
returns c ms l w line thread was got grants are =
    let t = c.in-Some.thread in
    let m = c.in-Some-awaited.mutex in
    let since : ℕ → ℕ = λ m. grant_line m (followed_by ms l) in
    let awaits = c.in-Some-awaited.ensures ∙ ap (λ (S : State). wait_of S t) c.waits.ensures in
    let started =
    c.of.ensures since
    (ap (λ (o : Option Wait). option_map_or (λ (x : Wait). x.mutex) o 0) awaits)
    (got t c.in-Some.is ∙ ap (λ (w : World). gets w.state t) (sym w))
    (c.line_of-grant.ensures (followed_by ms l) w grants
    ∙ ap (λ (w : World). option_map_or (λ o. since m) (owner_of w.state m) 0) (sym w)) in
    waits_followed wait_start ms l
    (kept_of c.args.self.now.starts) (kept_of c.begin.new.self) t false true
    (sym thread ∙ c.in-Some.is) (sym c.if-was.false ∙ was t c.in-Some.is)
    (ap is_some (awaits ∙ ap (λ (w : World). wait_of w.state t) w))
    (c.in_ok-begin.ensures
    ∙ rw c.thread.view_is
    (ap (λ (s : WaitStart). set t (Some s) (kept_of c.args.self.now.starts))
    (started ∙ ap (wait_at t c.args.line since) w
    ∙ ap (λ n. wait_at t n since (after (now ms) l)) line))) are
