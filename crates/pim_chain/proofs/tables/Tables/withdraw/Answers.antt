use Rattle.std.proofs.Common.{subst, arith, ap, ◌∙◌, None, length, option_and_then}
use Rattle.pim_base.specs.State.{owner_of}
use Rattle.pim_base.specs.declared.steps.Wait.{Wait}
use Rattle.pim_chain.specs.Views.{View, stored_at}
use Rattle.pim_chain.specs.Settled.{SettledBut}
use Rattle.pim_sets.specs.Work.{Tells}
use Rattle.pim_chain.proofs.NoHigher.{left_settled}
use Rattle.pim_chain.proofs.Known.{owned_mutex}
use Rattle.pim_chain.proofs.Told.{tells-same}
use Rattle.pim_chain.proofs.tables.Tables.withdraw.Goals as goal

pub returns-else-get-given-clause-settled : goal.returns-else-get-given-clause-settled
returns-else-get-given-clause-settled c =
    let v = c.args.self.now in
    let w = c.end_wait.new.self in
    left_settled v w c.args.task c.args.owner c.args.wait.mutex None c.tasks-tasks.ensures.ready c.end_wait.ensures.ready
    c.end_wait.ensures.left
    (owned_mutex v.state c.args.wait.mutex c.args.owner c.tasks-tasks.ensures.ready.sound.lists c.requires.owned)
    c.requires.owned c.requires.settled
    (subst (SettledBut w.state (stored_at w))
    (ap (option_and_then (λ (u : Wait). owner_of v.state u.mutex)) c.requires.waits ∙ c.requires.owned)
    (c.end_wait.ensures.unsettles c.requires.settled))
    (omega (arith, c.if-get-given.false, c.given_by-given.ensures, c.get.ensures.value, c.known_stored.ensures))

pub returns-else-get-given-clause-work : goal.returns-else-get-given-clause-work
returns-else-get-given-clause-work c = tells-same _ _ _ _ (λ t _ _. ap (λ (w : View). stored_at w t) c.end_wait.ensures.left)

pub returns-then-get-given-clause-work : goal.returns-then-get-given-clause-work
returns-then-get-given-clause-work c =
    subst (λ (w : View). Tells (length w.state.base) (stored_at w) c.args.visits.now (stored_at c.settle_from.new.self) c.settle_from.new.visits)
    c.end_wait.ensures.left c.settle_from.ensures.work
