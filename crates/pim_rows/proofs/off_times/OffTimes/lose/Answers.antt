use Rattle.std.proofs.Common.{◌≡◌, ◌≤◌, ◌+◌, ℕ, max, length, true, false, sym, ◌∙◌, ap, arith}
use Rattle.std.proofs.Common.{is_some, Some}
use Rattle.pim_world.specs.Worlds.{World, Kernel}
use Rattle.pim_world.specs.After.{set}
use Rattle.pim_world.specs.Held.{world_of}
use Rattle.pim_rows.specs.Moments.{now, clock}
use Rattle.pim_world.specs.Standing.{is_off, off_of}
use Rattle.pim_rows.specs.Kept.{kept_of}
use Rattle.pim_rows.specs.OffTimes.{off_kept, off_ended}
use Rattle.pim_rows.specs.declared.off_time.OffTime.{OffTime}
use Rattle.pim_rows.specs.declared.off_times.OffTimes.{OffTimes}
use Rattle.pim_rows.proofs.OffTime.{off_over, off_times_lost, over_more, over_all}
use Rattle.pim_rows.proofs.off_times.OffTimes.lose.Goals as goal
use Rattle.pim_rows.proofs.off_times.OffTimes.lose.Goals.{then-is_off+in_ok-begin, else-is_off}

pub loop-i-preserved : goal.loop-i-preserved
loop-i-preserved c =
    let t : ℕ = c.loop-i.i + 1 in
    let old = kept_of c.args.self.now.starts in
    let so_far = kept_of c.loop-i.self.starts in
    let more = over_more old so_far (kept_of c.if-is_off.self.starts)
    (world_of c.args.before.now) c.max-clock.result c.loop-i.i in
    let is : c.is_off.result ≡ is_off t (world_of c.args.before.now) =
    c.is_off.ensures ∙ ap (λ (k : Kernel). is_some (off_of k t)) c.kernel-in-loop-i.ensures in
    elim c.if-is_off.branch [
      | then-is_off+in_ok-begin w ↦
          more true (sym w.if-is_off.true ∙ is)
          (ap (λ (s : OffTimes). kept_of s.starts) w.self-is ∙ w.in_ok-begin.ensures
          ∙ rw w.thread.view_is
          (ap (λ (o : OffTime). set t (Some o) so_far)
          (w.ended-ended.ensures
          ∙ ap (λ (o : OffTime). off_ended o c.max-clock.result) w.get.ensures)))
          c.loop-i.invariant
      | else-is_off w ↦
          more false (sym w.if-is_off.false ∙ is)
          (ap (λ (s : OffTimes). kept_of s.starts) w.self-is)
          c.loop-i.invariant
    ]

pub returns : goal.returns
returns c ms w are =
    let old = kept_of c.args.self.now.starts in
    let new = kept_of c.loop-i.self.starts in
    let before : (world_of c.args.before.now).clock ≡ clock ms = ap (λ (w : World). w.clock) w in
    let at : c.max-clock.result ≡ max (clock ms) c.args.time = omega arith in
    let threads : length (world_of c.args.before.now).kernel.off ≤ c.loop-i.i =
    omega (arith, ap (λ (k : Kernel). length k.off) c.kernel.ensures) in
    off_times_lost ms c.args.time old new (omega arith)
    (λ k. over_all old new
    (world_of c.args.before.now) c.max-clock.result c.loop-i.i threads c.loop-i.invariant k
    ∙ ap (λ (w : World). off_over (is_off k w) (off_kept old k) c.max-clock.result) w
    ∙ ap (off_over (is_off k (now ms)) (off_kept old k)) at) are
