use Rattle.std.proofs.Common.{◌≡◌, ◌+◌, ◌∙◌, ℕ, false, List, [], ap, sym, subst}
use Rattle.pim_waits.specs.Touched.{Touches}
use Rattle.pim_world.specs.Worlds.{World}
use Rattle.pim_world.specs.After.{after}
use Rattle.pim_world.specs.Held.{world_of, touched_of}
use Rattle.pim_world.specs.Touching.{declares}
use Rattle.pim_rows.specs.Found.{actor, mutex_of}
use Rattle.pim_rows.specs.Moments.{now}
use Rattle.pim_rows.proofs.SameStanding.{AreWaits-after}
use Rattle.pim_spans.specs.Following.{AreUnmovedBy, moment_of}
use Rattle.pim_spans.proofs.Unmoved.{unmoved_owner}
use Rattle.pim_spans.proofs.follower.Follower.step.Goals as goal

pub returns-clause-follows : goal.returns-clause-follows
returns-clause-follows c ms follows =
    let l = c.args.line.now in
    let m = moment_of ms l in
    let world : world_of c.go.new.self ≡ after (now ms) l =
    c.in_ok-go.ensures.world ∙ ap (λ (w : World). after w l) follows.world in
    let number = c.in-Some.ensures.1 ∙ ap (λ n. n + 1) follows.number in
    let clock = c.clock.ensures ∙ ap (λ (w : World). w.clock) world in
    let thread : c.actor-thread.result ≡ actor (now ms) l =
    c.actor-thread.ensures ∙ ap (λ (w : World). actor w l) follows.world in
    let mutex : c.locked_mutex-mutex.result ≡ mutex_of (now ms) l =
    c.locked_mutex-mutex.ensures ∙ ap (λ (w : World). mutex_of w l) follows.world in
    let touches : declares l ≡ false
    → Touches (now ms).state (world_of c.go.new.self).state [] (touched_of c.go.new.self) =
    λ d. let P : World → Type 0 =
    λ v. Touches v.state (world_of c.go.new.self).state [] (touched_of c.go.new.self) in
    subst P follows.world (c.in_ok-go.ensures.touched d) in
    let unmoved : AreUnmovedBy ms l c.deref.result.now =
    let P : List ℕ → Type 0 = λ ts. AreUnmovedBy ms l ts in
    subst P (sym c.deref.ensures.value)
    (c.in_ok-affected.ensures ms world follows.waiting thread touches) in
    record {
      world = world;
      waiting = AreWaits-after (now ms) l follows.waiting;
      number = number;
      threads = c.in_ok-follow.ensures m ms world number clock unmoved follows.threads;
      owns =
          c.in_ok-follow_owner.ensures m ms world number clock
          (λ n other. unmoved_owner ms l n (λ k e. other k (mutex ∙ e))) follows.owns;
    }
