use Rattle.pim_chain.proofs.Told.{tells_over}
use Rattle.pim_chain.proofs.tables.Tables.release_all.Goals as goal

pub returns-then-released-gt0-clause-work : goal.returns-then-released-gt0-clause-work
returns-then-released-gt0-clause-work c =
    tells_over _ _ _ _ _ _ _ _ c.hand_over_all-released.ensures.work c.hand_over_all-released.ensures.handed.tasks
    c.settle_from.ensures.work
