use Rattle.std.proofs.Common.{◌≡◌, sym, ◌∙◌, ap, arith, is_some, Some}
use Rattle.pim_world.specs.Worlds.{World, Kernel}
use Rattle.pim_world.specs.After.{after, set}
use Rattle.pim_rows.specs.Moments.{now}
use Rattle.pim_world.specs.Standing.{is_off, off_of}
use Rattle.pim_rows.specs.Kept.{kept_of}
use Rattle.pim_rows.specs.OffTimes.{off_kept, off_from, off_ended}
use Rattle.pim_rows.specs.declared.off_time.OffTime.{OffTime}
use Rattle.pim_rows.proofs.OffTime.{off_times_kept, off_times_same, off_times_begun}
use Rattle.pim_rows.proofs.OffTime.{off_times_ended}
use Rattle.pim_rows.proofs.off_times.OffTimes.follow.Goals as goal

pub returns-in_default : goal.returns-in_default
returns-in_default c ms l w known thread was are =
    off_times_kept ms l known (kept_of c.args.self.now.starts) (sym thread ∙ c.in_default.is) are

pub returns-then-is : goal.returns-then-is
returns-then-is c ms l w known thread was are =
    let t = c.in-Some.thread in
    off_times_same ms l known (kept_of c.args.self.now.starts) t (sym thread ∙ c.in-Some.is) are
    (sym (was t c.in-Some.is) ∙ c.if-was.true ∙ sym c.if-is.true
    ∙ c.is_off-is.ensures ∙ ap (λ (k : Kernel). is_some (off_of k t)) c.kernel.ensures
    ∙ ap (λ (w : World). is_off t w) w)

pub returns-then-was : goal.returns-then-was
returns-then-was c ms l w known thread was are =
    let t = c.in-Some.thread in
    let old = kept_of c.args.self.now.starts in
    let at : c.clock.result ≡ (after (now ms) l).clock =
    c.clock.ensures ∙ ap (λ (w : World). w.clock) w in
    off_times_ended ms l known old t (sym thread ∙ c.in-Some.is) are (kept_of c.begin.new.self)
    (sym (was t c.in-Some.is) ∙ c.if-was.true)
    (sym (c.is_off-is.ensures ∙ ap (λ (k : Kernel). is_some (off_of k t)) c.kernel.ensures
    ∙ ap (λ (w : World). is_off t w) w) ∙ c.if-is.false)
    (omega arith)
    (c.in_ok-begin.ensures
    ∙ rw c.thread.view_is
    (ap (λ (o : OffTime). set t (Some o) old)
    (c.ended-ended.ensures ∙ ap (λ (o : OffTime). off_ended o c.clock.result) c.get.ensures
    ∙ ap (off_ended (off_kept old t)) at)))

pub returns-in_ok-begin-2 : goal.returns-in_ok-begin-2
returns-in_ok-begin-2 c ms l w known thread was are =
    let t = c.in-Some.thread in
    let old = kept_of c.args.self.now.starts in
    let at : c.clock-then-is-2.result ≡ (after (now ms) l).clock =
    c.clock-then-is-2.ensures ∙ ap (λ (w : World). w.clock) w in
    off_times_begun ms l known old t
    (sym thread ∙ c.in-Some.is) are (kept_of c.begin-then-is-2.new.self)
    (sym (was t c.in-Some.is) ∙ c.if-was.false)
    (sym (c.is_off-is.ensures ∙ ap (λ (k : Kernel). is_some (off_of k t)) c.kernel.ensures
    ∙ ap (λ (w : World). is_off t w) w) ∙ c.if-is-2.true)
    (c.in_ok-begin-2.ensures
    ∙ rw c.thread-then-is-2.view_is
    (ap (λ (o : OffTime). set t (Some o) old)
    (c.from-begun.ensures ∙ ap (λ (o : OffTime). off_from o c.clock-then-is-2.result)
    c.get-then-is-2.ensures ∙ ap (off_from (off_kept old t)) at)))

pub returns-else-is-2 : goal.returns-else-is-2
returns-else-is-2 c ms l w known thread was are =
    let t = c.in-Some.thread in
    off_times_same ms l known (kept_of c.args.self.now.starts) t (sym thread ∙ c.in-Some.is) are
    (sym (was t c.in-Some.is) ∙ c.if-was.false ∙ sym c.if-is-2.false
    ∙ c.is_off-is.ensures ∙ ap (λ (k : Kernel). is_some (off_of k t)) c.kernel.ensures
    ∙ ap (λ (w : World). is_off t w) w)
