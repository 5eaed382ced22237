use Rattle.std.proofs.Common.{◌≡◌, []}
use Rattle.pim_waits.proofs.component.Component.start.Given as goal

-- there is room for the threads so far
abbrev pub invariant-loop-thread : goal.invariant-loop-thread
invariant-loop-thread l = l.self ≡ record { threads = []; room = l._thread }
