use Rattle.std.proofs.Common.{◌≡◌, List, take}
use Rattle.pim_world.specs.Held.{world_of}
use Rattle.pim_rows.specs.Moments.{Moment}
use Rattle.pim_spans.specs.Following.{AreThreads}
use Rattle.pim_spans.proofs.Threads.{SoFar}
use Rattle.pim_spans.proofs.thread_tracks.ThreadTracks.follow.Given as goal

-- the threads so far have gone on
abbrev pub invariant-loop-thread : goal.invariant-loop-thread
invariant-loop-thread l =
    (m : Moment) (ms : List Moment)
    → world_of l.world ≡ m.world
    → l.fn.at.line ≡ m.number
    → l.fn.at.clock ≡ m.world.clock
    → AreThreads l.fn.window ms l.initial.self
    → SoFar l.fn.window m ms (take l.thread-index l.affected) l.initial.self l.self
