use Rattle.pim_spans.proofs.Threads.{so_far_next, so_far_all}
use Rattle.pim_spans.proofs.thread_tracks.ThreadTracks.follow.Goals as goal

pub loop-thread-preserved : goal.loop-thread-preserved
loop-thread-preserved c m ms world line clock are =
    so_far_next c.args.window m ms c.args.self.now
    c.args.affected.now c.loop-thread.self c.note.new.self
    c.loop-thread.thread-index c.thread-item.result c.loop-thread-test.true c.thread-item.is are
    (c.loop-thread.invariant m ms world line clock are)
    (λ low either. c.in_ok-note.ensures.here m ms low world line clock either)
    c.in_ok-note.ensures.others

pub returns : goal.returns
returns c m ms world line clock unmoved are =
    so_far_all c.args.window m ms c.args.self.now
    c.args.affected.now c.loop-thread.thread-index c.loop-thread.self c.loop-thread-test.false are
    unmoved (c.loop-thread.invariant m ms world line clock are)
