use Rattle.std.proofs.Common.{Some, sym}
use Rattle.pim_rows.proofs.Opening.{at_index, set_here, set_else}
use Rattle.pim_rows.proofs.open_waits.OpenWaits.refresh_in.Goals as goal

pub refresh-requires : goal.refresh-requires
refresh-requires c =
    rw c.clock.ensures
    (c.requires.until c.in-Some.open
    (at_index c.args.self.now.opens.items
    c.args.index _ _ c.index_mut.ensures.value c.in-Some.is c.requires.within))

pub returns-in_ok-refresh-clause-here : goal.returns-in_ok-refresh-clause-here
returns-in_ok-refresh-clause-here c =
    rw (at_index c.args.self.now.opens.items
    c.args.index _ _ c.index_mut.ensures.value c.in-Some.is c.requires.within)
    (rw (set_here c.args.self.now.opens.items c.args.index
    (Some c.refresh.new.self) c.requires.within)
    (rw (sym c.of-standing.ensures) (rw (sym c.clock.ensures) c.in_ok-refresh.ensures)))

pub returns-in_ok-refresh-clause-others : goal.returns-in_ok-refresh-clause-others
returns-in_ok-refresh-clause-others c t ne =
    set_else c.args.self.now.opens.items c.args.index t _ ne

pub returns-in_default-clause-here : goal.returns-in_default-clause-here
returns-in_default-clause-here c =
    rw (at_index c.args.self.now.opens.items
    c.args.index _ _ c.index_mut.ensures.value c.in_default.is c.requires.within)
    (rw (set_here c.args.self.now.opens.items c.args.index c.index_mut.result.now c.requires.within)
    (rw c.in_default.is tt))
