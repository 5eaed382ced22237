use Rattle.std.proofs.Common.{◌≡◌, ◌-◌, length}
use Rattle.std.specs.List.{filter_map}
use Rattle.pim_base.specs.Lists.{first_item}
use Rattle.pim_base.specs.Chains.{chain, blocker}
use Rattle.pim_waits.specs.Waiting.{blame, passes_less}
use Rattle.pim_waits.proofs.waits.Waits.blame.Given as goal

-- the mutex is on the rest of the way
abbrev pub invariant-loop-hop : goal.invariant-loop-hop
invariant-loop-hop l =
    blame l.self l.fn.thread
    ≡ first_item (filter_map
    (passes_less l.self l.level) (chain (blocker l.self) (length l.self.base - l._hop) l.at))
