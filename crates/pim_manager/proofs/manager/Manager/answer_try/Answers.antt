use Rattle.pim_manager.proofs.manager.Manager.answer_try.Goals as goal

pub returns-then-known_relocks-clause-work : goal.returns-then-known_relocks-clause-work
returns-then-known_relocks-clause-work c = c.answer_relock.ensures.work c.args.visits.now
