use Rattle.std.proofs.Common.{◌∙◌, ap, sym, length}
use Rattle.std.proofs.lemmas.List.{length-map}
use Rattle.pim_sets.specs.Work.{noted_tasks}
use Rattle.pim_manager.specs.Changed.{TrackedState, changed_task}
use Rattle.pim_manager.proofs.tracked_manager.TrackedManager.changed_count.Goals as goal

pub returns : goal.returns
returns c =
    c.noted_count.ensures
    ∙ sym (length-map (noted_tasks c.self.inside.visits) (changed_task c.self.inside.manager))
    ∙ ap (λ (h : TrackedState). length h.changed) c.self.view_is
