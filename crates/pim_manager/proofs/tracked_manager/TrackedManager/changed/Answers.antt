use Rattle.std.proofs.Common.{◌∙◌, ap, arith, length}
use Rattle.std.proofs.lemmas.List.{length-map}
use Rattle.pim_base.specs.Priorities.{effective_priority}
use Rattle.pim_sets.specs.Work.{noted_tasks}
use Rattle.pim_manager.specs.Changed.{changed_task}
use Rattle.pim_manager.proofs.Listing.{noted_few, noted_known}
use Rattle.pim_manager.proofs.tracked_manager.TrackedManager.changed.Goals as goal

pub new-requires : goal.new-requires
new-requires c =
    noted_known c.self.inside.manager (effective_priority c.self.inside.manager) c.self.inside.visits c.self.invariant.1

pub returns-clause-few : goal.returns-clause-few
returns-clause-few c =
    let S = c.self.inside.manager in let w = c.self.inside.visits in
    let listed = ap length c.new.ensures ∙ length-map (noted_tasks w) (changed_task S) in
    let tasks = c.tasks-tasks.ensures in
    let few =
    noted_few (length S.base) (effective_priority S) w c.self.invariant.1 (omega (arith, tasks.count, tasks.few))
    c.self.invariant.0 in
    omega (arith, listed, few, tasks.count, tasks.few)
