use Rattle.std.proofs.Common.{ap, subst, length, Some}
use Rattle.pim_chain.specs.Views.{View, stored_at, waiter_at}
use Rattle.pim_chain.specs.Settled.{SettledBut}
use Rattle.pim_sets.specs.Work.{Tells}
use Rattle.pim_chain.proofs.NoHigher.{joined_settled}
use Rattle.pim_chain.proofs.Told.{tells-same}
use Rattle.pim_chain.proofs.tables.Tables.enqueue.Goals as goal

pub returns-else-not-gives_no_more-clause-settled : goal.returns-else-not-gives_no_more-clause-settled
returns-else-not-gives_no_more-clause-settled c =
    let v = c.args.self.now in
    let w = c.join.new.self in
    joined_settled v w c.args.task c.args.owner c.args.mutex (Some (record { mutex = c.args.mutex; ticket = c.args.ticket }))
    (waiter_at v c.args.task c.args.ticket) c.tasks-tasks.ensures.ready c.join.ensures.ready c.join.ensures.joined
    c.requires.mutex c.requires.owned c.requires.settled
    (subst (SettledBut w.state (stored_at w)) c.requires.owned (c.join.ensures.unsettles c.requires.settled))
    (c.gives_no_more.ensures.0 c.if-not-gives_no_more.false)

pub returns-else-not-gives_no_more-clause-work : goal.returns-else-not-gives_no_more-clause-work
returns-else-not-gives_no_more-clause-work c = tells-same _ _ _ _ (λ t _ _. ap (λ (w : View). stored_at w t) c.join.ensures.joined)

pub returns-then-not-gives_no_more-clause-work : goal.returns-then-not-gives_no_more-clause-work
returns-then-not-gives_no_more-clause-work c =
    subst (λ (w : View). Tells (length w.state.base) (stored_at w) c.args.visits.now (stored_at c.settle_from.new.self) c.settle_from.new.visits)
    c.join.ensures.joined c.settle_from.ensures.work
