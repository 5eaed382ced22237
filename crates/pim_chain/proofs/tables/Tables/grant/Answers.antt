use Rattle.std.proofs.Common.{ap, length, subst}
use Rattle.std.proofs.lemmas.Option.{none-some}
use Rattle.pim_chain.specs.Views.{View, stored_at}
use Rattle.pim_sets.specs.Work.{Tells}
use Rattle.pim_chain.proofs.NoHigher.{gained_local}
use Rattle.pim_chain.proofs.Told.{tells-same}
use Rattle.pim_chain.proofs.Visit.{visited_same}
use Rattle.pim_chain.proofs.tables.Tables.grant.Goals as goal

pub returns-else-not-gives_no_more-clause-settled : goal.returns-else-not-gives_no_more-clause-settled
returns-else-not-gives_no_more-clause-settled c =
    (visited_same c.bind.new.self c.args.task (c.bind.ensures.unsettles c.requires.settled)
    (gained_local c.args.self.now c.bind.new.self c.args.task c.args.mutex c.tasks-tasks.ensures.ready c.bind.ensures.ready c.bind.ensures.state
    c.requires.free (c.requires.settled c.args.task c.requires.known (none-some c.args.task))
    (c.gives_no_more.ensures.0 c.if-not-gives_no_more.false))).settled

pub returns-else-not-gives_no_more-clause-work : goal.returns-else-not-gives_no_more-clause-work
returns-else-not-gives_no_more-clause-work c = tells-same _ _ _ _ (λ t _ _. ap (λ (w : View). stored_at w t) c.bind.ensures.state)

pub returns-then-not-gives_no_more-clause-work : goal.returns-then-not-gives_no_more-clause-work
returns-then-not-gives_no_more-clause-work c =
    subst (λ (w : View). Tells (length w.state.base) (stored_at w) c.args.visits.now (stored_at c.settle_from.new.self) c.settle_from.new.visits)
    c.bind.ensures.state c.settle_from.ensures.work
