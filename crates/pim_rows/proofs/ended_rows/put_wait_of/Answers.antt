use Rattle.std.proofs.Common.{refl, sym, ◌∙◌, ap, cond, nat_lt, lt-ltb, le-ltb}
use Rattle.pim_world.specs.Worlds.{World}
use Rattle.pim_rows.specs.Kept.{kept_of}
use Rattle.pim_rows.proofs.EndedRows.{wait_put, none_put}
use Rattle.pim_rows.proofs.ended_rows.put_wait_of.Goals as goal

pub returns-then-total-gt0 : goal.returns-then-total-gt0
returns-then-total-gt0 c ms l w n times are =
    wait_put ms l c.args.thread
    (kept_of c.args.starts.now.starts) c.in-Some-get.start c.in-Some.times c.args.out.now.items
    c.put_wait.new.out.items c.args.number c.clock.result _ are
    (ap (kept_of c.args.starts.now.starts) (sym c.thread.view_is) ∙ sym c.in-Some-get.ensures)
    (sym c.in-Some.is ∙ times) n
    (sym (c.clock.ensures ∙ ap (λ (w : World). w.clock) w)) c.in_ok-put_wait.ensures refl
    (ap (λ b. cond b 1 0) (sym (lt-ltb _ _ c.if-total-gt0.true))
    ∙ ap (λ n. cond (nat_lt 0 n) 1 0) c.total.ensures)

pub returns-else-total-gt0 : goal.returns-else-total-gt0
returns-else-total-gt0 c ms l w n times are =
    wait_put ms l c.args.thread
    (kept_of c.args.starts.now.starts) c.in-Some-get.start c.in-Some.times c.args.out.now.items
    c.put_wait.new.out.items c.args.number c.clock.result _ are
    (ap (kept_of c.args.starts.now.starts) (sym c.thread.view_is) ∙ sym c.in-Some-get.ensures)
    (sym c.in-Some.is ∙ times) n
    (sym (c.clock.ensures ∙ ap (λ (w : World). w.clock) w)) c.in_ok-put_wait.ensures refl
    (ap (λ b. cond b 1 0) (sym (le-ltb _ _ c.if-total-gt0.false))
    ∙ ap (λ n. cond (nat_lt 0 n) 1 0) c.total.ensures)

pub returns-in_default : goal.returns-in_default
returns-in_default c ms l w n times are =
    none_put ms l c.args.thread c.args.out.now.items _ (sym c.in_default.is ∙ times) refl refl
