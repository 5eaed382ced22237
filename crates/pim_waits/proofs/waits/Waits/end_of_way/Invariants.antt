use Rattle.std.proofs.Common.{◌≡◌, ◌-◌, length}
use Rattle.pim_base.specs.Chains.{chain, blocker}
use Rattle.pim_waits.specs.Waiting.{last_item, way}
use Rattle.pim_waits.proofs.waits.Waits.end_of_way.Given as goal

-- the rest of the way has the same end
abbrev pub invariant-loop-hop : goal.invariant-loop-hop
invariant-loop-hop l =
    last_item (way l.self l.fn.thread)
    ≡ last_item (chain (blocker l.self) (length l.self.base - l._hop) l.last)
