use Rattle.std.proofs.Math.Nat.{lt_of_not-le}
use Rattle.std.proofs.Common.{◌∙◌, ap, refl, subst, length, arith}
use Rattle.std.proofs.lemmas.Option.{same_Some}
use Rattle.pim_base.specs.State.{owner_of}
use Rattle.pim_chain.specs.Views.{View, stored_at}
use Rattle.pim_sets.specs.Work.{Tells}
use Rattle.pim_chain.proofs.NoHigher.{gained_local}
use Rattle.pim_chain.proofs.OwnerVisits.{given_owner, given_had, new_owner_visits-raised, new_owner_visits-same}
use Rattle.pim_chain.proofs.Releasing.{idle_is_other, passed_apart}
use Rattle.pim_chain.proofs.Told.{tells-same, tells-once}
use Rattle.pim_chain.proofs.Waiting.{waiting_known}
use Rattle.pim_chain.proofs.tables.Tables.give_to.Goals as goal

pub returns-then-not-gives_no_more-clause-settled : goal.returns-then-not-gives_no_more-clause-settled
returns-then-not-gives_no_more-clause-settled c a idle =
    let right = c.settle_idle.ensures.right in
    passed_apart _ _ _ c.settle_idle.new.self _ _ _ _ c.tasks-tasks.ensures.ready c.requires.free c.requires.waits c.end_wait.ensures.left c.bind.ensures.state
    right.state right.others idle (λ _. right.local)

pub returns-else-not-gives_no_more-clause-settled : goal.returns-else-not-gives_no_more-clause-settled
returns-else-not-gives_no_more-clause-settled c a idle =
    let v = c.args.self.now in
    let x = c.end_wait.new.self in
    let t = c.args.waiter.now.task in
    let ready = c.tasks-tasks.ensures.ready in
    let waits = c.requires.waits in
    let gone = c.end_wait.ensures.left in
    let bound = c.bind.ensures in
    passed_apart _ _ _ c.bind.new.self _ _ _ _ ready c.requires.free waits gone bound.state refl (λ u _. refl) idle (λ settled.
    gained_local x c.bind.new.self t c.args.mutex c.end_wait.ensures.ready bound.ready bound.state
    (ap (λ (w : View). owner_of w.state c.args.mutex) gone ∙ c.requires.free)
    (settled t (rw gone (waiting_known v.state ready.sound.lists t _ waits)) (λ e. idle_is_other v.state t a _ waits idle (same_Some a t e)))
    (c.gives_no_more.ensures.0 c.if-not-gives_no_more.false))

pub returns-then-not-gives_no_more-clause-work : goal.returns-then-not-gives_no_more-clause-work
returns-then-not-gives_no_more-clause-work c =
    let z = c.settle_idle.new in
    subst (λ (w : View). Tells (length w.state.base) (stored_at w) c.args.visits.now (stored_at z.self) z.visits) c.end_wait.ensures.left
    (subst (λ (w : View). Tells (length w.state.base) (stored_at w) c.args.visits.now (stored_at z.self) z.visits) c.bind.ensures.state
    (tells-once _ _ _ _ _ c.args.waiter.now.task c.settle_idle.ensures.work c.settle_idle.ensures.right.others))

pub returns-else-not-gives_no_more-clause-work : goal.returns-else-not-gives_no_more-clause-work
returns-else-not-gives_no_more-clause-work c =
    tells-same _ _ _ _ (λ t _ _. ap (λ (w : View). stored_at w t) c.bind.ensures.state ∙ ap (λ (w : View). stored_at w t) c.end_wait.ensures.left)

pub returns-then-not-gives_no_more-clause-counted : goal.returns-then-not-gives_no_more-clause-counted
returns-then-not-gives_no_more-clause-counted c =
    let right = c.settle_idle.ensures.right in
    let once = c.settle_idle.ensures.work.counted in
    let raised = new_owner_visits-raised c.args.self.now c.bind.new.self c.settle_idle.new.self c.args.mutex c.args.waiter.now.task
    (given_owner c.tasks-tasks.ensures.ready c.end_wait.ensures.ready c.requires.waits c.end_wait.ensures.left c.bind.ensures.state)
    right.state right.queues (given_had _ _ _ _ _ c.end_wait.ensures.left c.bind.ensures.state)
    (lt_of_not-le (λ le. let no = c.gives_no_more.ensures.1 le in let yes = c.if-not-gives_no_more.true in cc)) in
    omega (arith, once, raised)

pub returns-else-not-gives_no_more-clause-counted : goal.returns-else-not-gives_no_more-clause-counted
returns-else-not-gives_no_more-clause-counted c =
    let same = new_owner_visits-same c.args.self.now c.bind.new.self c.args.mutex c.args.waiter.now.task
    (given_owner c.tasks-tasks.ensures.ready c.end_wait.ensures.ready c.requires.waits c.end_wait.ensures.left c.bind.ensures.state)
    (given_had _ _ _ _ _ c.end_wait.ensures.left c.bind.ensures.state)
    (c.gives_no_more.ensures.0 c.if-not-gives_no_more.false) in
    omega (arith, same)
