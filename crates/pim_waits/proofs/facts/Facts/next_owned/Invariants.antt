use Rattle.std.proofs.Common.{◌≡◌, None, drop, fold}
use Rattle.pim_waits.specs.Own.{nearer}
use Rattle.pim_waits.proofs.facts.Facts.next_owned.Given as goal

-- only the mutexes that are left matter
abbrev pub invariant-loop-mutex : goal.invariant-loop-mutex
invariant-loop-mutex l =
    let near = nearer l.self l.thread l.after in
    fold near l.next (drop l.mutex-index l.mutex-items) ≡ fold near None l.mutex-items
