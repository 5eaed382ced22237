use Rattle.pim_manager.proofs.Works.{worked_count}
use Rattle.pim_manager.proofs.manager.Manager.answer_relock.Goals as goal

pub returns-clause-work : goal.returns-clause-work
returns-clause-work c = worked_count _ _ c.count_up.ensures.state c.self.view_is
