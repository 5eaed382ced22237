use Rattle.std.proofs.Common.{◌∙◌, ap, sym, not, ℕ, Option}
use Rattle.pim_base.specs.State.{State, wait_of}
use Rattle.pim_world.specs.Held.{world_of}
use Rattle.pim_rows.specs.AllOpen.{ended_times}
use Rattle.pim_rows.proofs.Opening.{opens_kept, opens_ended, opens_lasting, opens_begun}
use Rattle.pim_rows.proofs.Opening.{times_ended, until_but, current_after, current_but, waits-shown}
use Rattle.pim_rows.proofs.open_waits.OpenWaits.follow.Goals as goal

pub returns-in_default-clause-kept : goal.returns-in_default-clause-kept
returns-in_default-clause-kept c ms l is_after thread was same are =
    opens_kept ms l (world_of c.args.world.now)
    is_after c.args.self.now.opens.items c.refresh.new.self.opens.items
    (sym c.in_default.is ∙ thread)
    (c.in_ok-refresh.ensures (current_after ms l (world_of c.args.world.now)
    is_after c.args.affected.now c.args.self.now.opens.items same are)) are

pub end-requires : goal.end-requires
end-requires c = rw c.clock.ensures c.requires

pub refresh-requires-then-is_none : goal.refresh-requires-then-is_none
refresh-requires-then-is_none c =
    until_but (world_of c.args.world.now).clock
    c.args.self.now.opens.items c.end.new.self.opens.items c.in-Some.thread
    c.in_ok-ended.ensures.gone c.in_ok-ended.ensures.others c.requires

pub returns-then-is_none-clause-kept : goal.returns-then-is_none-clause-kept
returns-then-is_none-clause-kept c ms l is_after thread was same are =
    opens_ended ms l (world_of c.args.world.now) is_after
    c.args.self.now.opens.items
    c.end.new.self.opens.items c.refresh-then-is_none.new.self.opens.items c.in-Some.thread
    (sym c.in-Some.is ∙ thread)
    (waits-shown c.awaited.result _ _
    (c.awaited.ensures ∙ ap (λ (S : State). wait_of S c.in-Some.thread) c.waits.ensures)
    (c.is_none.ensures ∙ ap not c.if-is_none.true))
    c.in_ok-ended.ensures.gone c.in_ok-ended.ensures.others
    (c.in_ok-refresh-2.ensures
    (current_but (world_of c.args.world.now)
    c.args.affected.now c.args.self.now.opens.items c.end.new.self.opens.items c.in-Some.thread
    c.in_ok-ended.ensures.gone c.in_ok-ended.ensures.others
    (current_after ms l (world_of c.args.world.now)
    is_after c.args.affected.now c.args.self.now.opens.items same are))) are

pub returns-then-is_none-clause-ended : goal.returns-then-is_none-clause-ended
returns-then-is_none-clause-ended c ms l is_after thread was are =
    times_ended ms l (world_of c.args.world.now)
    is_after c.args.self.now.opens.items c.in-Some.thread c.in_ok-ended.ended
    (waits-shown c.awaited.result _ _
    (c.awaited.ensures ∙ ap (λ (S : State). wait_of S c.in-Some.thread) c.waits.ensures)
    (c.is_none.ensures ∙ ap not c.if-is_none.true))
    (rw (sym c.clock.ensures) c.in_ok-ended.ensures.times) are
    ∙ ap (λ (t : Option ℕ). ended_times t ms l) (sym c.in-Some.is)

pub returns-then-was-clause-kept : goal.returns-then-was-clause-kept
returns-then-was-clause-kept c ms l is_after thread was same are =
    opens_lasting ms l (world_of c.args.world.now) is_after
    c.args.self.now.opens.items c.refresh-2.new.self.opens.items c.in-Some.thread
    (sym c.in-Some.is ∙ thread)
    (waits-shown c.awaited.result _ _
    (c.awaited.ensures ∙ ap (λ (S : State). wait_of S c.in-Some.thread) c.waits.ensures)
    (c.is_none.ensures ∙ ap not c.if-is_none.false)
    ∙ sym c.if-was.true ∙ was c.in-Some.thread c.in-Some.is)
    (c.in_ok-refresh-3.ensures (current_after ms l (world_of c.args.world.now)
    is_after c.args.affected.now c.args.self.now.opens.items same are)) are

pub returns-clause-kept : goal.returns-clause-kept
returns-clause-kept c ms l is_after thread was same are =
    opens_begun ms l (world_of c.args.world.now) is_after
    c.args.self.now.opens.items
    c.refresh-2.new.self.opens.items c.begin.new.self.opens.items c.in-Some.thread
    (sym c.in-Some.is ∙ thread)
    (sym (was c.in-Some.thread c.in-Some.is) ∙ c.if-was.false)
    (waits-shown c.awaited.result _ _
    (c.awaited.ensures ∙ ap (λ (S : State). wait_of S c.in-Some.thread) c.waits.ensures)
    (c.is_none.ensures ∙ ap not c.if-is_none.false))
    (c.in_ok-refresh-3.ensures (current_after ms l (world_of c.args.world.now)
    is_after c.args.affected.now c.args.self.now.opens.items same are))
    c.in_ok-begin.ensures.here c.in_ok-begin.ensures.others are
