use Rattle.std.proofs.Common.{ℕ, List, take, subst}
use Rattle.std.proofs.lemmas.List.{take_all}
use Rattle.pim_world.specs.Held.{world_of}
use Rattle.pim_rows.specs.AllOpen.{SoFar}
use Rattle.pim_rows.proofs.Opening.{so_far_none, so_far_next, so_far_until, so_far_all}
use Rattle.pim_rows.proofs.open_waits.OpenWaits.refresh.Goals as goal

pub loop-thread-init : goal.loop-thread-init
loop-thread-init c = so_far_none (world_of c.args.world.now) c.args.self.now.opens.items

pub refresh_at-requires : goal.refresh_at-requires
refresh_at-requires c w e =
    so_far_until (world_of c.args.world.now) c.args.self.now.opens.items
    (take c.loop-thread.thread-index c.args.affected.now)
    c.loop-thread.self.opens.items c.loop-thread.invariant c.requires c.thread-item.result w e

pub loop-thread-preserved : goal.loop-thread-preserved
loop-thread-preserved c =
    so_far_next (world_of c.args.world.now)
    c.args.self.now.opens.items c.args.affected.now c.loop-thread.self.opens.items
    c.refresh_at.new.self.opens.items
    c.loop-thread.thread-index c.thread-item.result c.loop-thread-test.true c.thread-item.is
    c.loop-thread.invariant
    c.in_ok-refresh_at.ensures.here c.in_ok-refresh_at.ensures.others c.refresh_at.ensures.len

pub returns : goal.returns
returns c current =
    let w = world_of c.args.world.now in
    let P : List ℕ → Type 0 =
    λ ts. SoFar w ts c.args.self.now.opens.items c.loop-thread.self.opens.items in
    so_far_all w c.args.self.now.opens.items c.args.affected.now c.loop-thread.self.opens.items
    (subst P (take_all c.loop-thread.thread-index c.args.affected.now c.loop-thread-test.false)
    c.loop-thread.invariant)
    c.requires current
