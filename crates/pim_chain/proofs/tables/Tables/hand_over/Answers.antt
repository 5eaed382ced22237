use Rattle.std.proofs.Common.{◌∙◌, ap, arith, length}
use Rattle.pim_base.specs.State.{State}
use Rattle.pim_base.proofs.HandOvers.{base-hand_over}
use Rattle.pim_chain.proofs.OwnerVisits.{old_owner-idle, new_owner_visits-most, new_owner_visits-settled, old_owner_visits-falls, old_owner_visits-same}
use Rattle.pim_chain.proofs.Releasing.{no_heir}
use Rattle.pim_chain.proofs.Told.{tells_over}
use Rattle.pim_chain.proofs.tables.Tables.hand_over.Goals as goal

pub returns-then-may_fall-clause-counted : goal.returns-then-may_fall-clause-counted
returns-then-may_fall-clause-counted c =
    let v = c.args.self.now in
    let h = c.hand_over_unsettled-new_owner.new.self in
    let m = c.args.mutex in
    let a = c.args.owner in
    let handed = c.hand_over_unsettled-new_owner.ensures in
    let settled = c.settle_from.ensures in
    let first = handed.counted in
    let last = settled.single (no_heir h.state a (old_owner-idle v h m a handed.state c.requires.idle)) in
    let same = new_owner_visits-settled v h c.settle_from.new.self m a c.tasks-tasks.ensures.ready c.requires.owned c.requires.idle
    handed.state handed.ready handed.settled settled.queues settled.state in
    let had = c.get.ensures.value ∙ c.known_stored.ensures in
    let gave = c.given_level.ensures in
    let low = c.if-may_fall.true in
    let falls = old_owner_visits-falls v m a (omega (arith, had, gave, low)) in
    omega (arith, first, last, same, falls)

pub returns-else-may_fall-clause-counted : goal.returns-else-may_fall-clause-counted
returns-else-may_fall-clause-counted c =
    let first = c.hand_over_unsettled-new_owner.ensures.counted in
    let had = c.get.ensures.value ∙ c.known_stored.ensures in
    let gave = c.given_level.ensures in
    let above = c.if-may_fall.false in
    let stays = old_owner_visits-same c.args.self.now c.args.mutex c.args.owner (omega (arith, had, gave, above)) in
    omega (arith, first, stays)

pub returns-then-may_fall-clause-most : goal.returns-then-may_fall-clause-most
returns-then-may_fall-clause-most c =
    let v = c.args.self.now in
    let h = c.hand_over_unsettled-new_owner.new.self in
    let handed = c.hand_over_unsettled-new_owner.ensures in
    let first = handed.counted in
    let last = c.settle_from.ensures.single
    (no_heir h.state c.args.owner (old_owner-idle v h c.args.mutex c.args.owner handed.state c.requires.idle)) in
    let most = new_owner_visits-most v h c.args.mutex in
    omega (arith, first, last, most)

pub returns-else-may_fall-clause-most : goal.returns-else-may_fall-clause-most
returns-else-may_fall-clause-most c =
    let first = c.hand_over_unsettled-new_owner.ensures.counted in
    let most = new_owner_visits-most c.args.self.now c.hand_over_unsettled-new_owner.new.self c.args.mutex in
    omega (arith, first, most)

pub returns-then-may_fall-clause-work : goal.returns-then-may_fall-clause-work
returns-then-may_fall-clause-work c =
    tells_over _ _ _ _ _ _ _ _ c.hand_over_unsettled-new_owner.ensures.work
    (ap (λ (U : State). length U.base) c.hand_over_unsettled-new_owner.ensures.state ∙ ap length (base-hand_over c.args.self.now.state c.args.mutex))
    c.settle_from.ensures.work
