use Rattle.std.proofs.Common.{◌≡◌, ◌∙◌, [], ap, arith, length, List, sym, subst}
use Rattle.std.specs.List.{filter_map}
use Rattle.pim_sets.specs.Work.{AreChanged, noted_tasks}
use Rattle.pim_base.specs.State.{State}
use Rattle.pim_base.specs.Reports.{changed_tasks}
use Rattle.pim_base.specs.Priorities.{effective_priority}
use Rattle.pim_manager.specs.Changed.{TrackedState, listed}
use Rattle.pim_manager.specs.Handed.{with_its_owner}
use Rattle.pim_manager.specs.Kernel.{kernel_stepped}
use Rattle.pim_manager.specs.declared.handed_mutexes.HandedMutex.{HandedMutex}
use Rattle.pim_manager.specs.declared.changed_tasks.ChangedTask.{ChangedTask}
use Rattle.pim_manager.proofs.Kernel.{bases_after_kernel}
use Rattle.pim_manager.proofs.Listing.{changed_few, noted_tasks_of_step, unnoted_changed}
use Rattle.pim_manager.proofs.tracked_manager.TrackedManager.kernel_step.Goals as goal

-- what the notes tell of the manager's new state
noted :
    (c : goal.After-get)
    → noted_tasks c.reply_to_kernel-reply.new.visits
    ≡ changed_tasks c.self.inside.manager c.reply_to_kernel-reply.new.self
noted c =
    let S : State = c.self.inside.manager in
    let tasks = c.tasks-tasks.ensures in
    noted_tasks_of_step S c.reply_to_kernel-reply.new.self c.restart.new.self c.reply_to_kernel-reply.new.visits
    (omega (arith, tasks.count, tasks.few))
    c.reply_to_kernel-reply.ensures.work (c.restart.ensures.keeps ∙ c.self.invariant.0) c.restart.ensures.none

pub returns-clause-state : goal.returns-clause-state
returns-clause-state c =
    let S : State = c.self.inside.manager in let T : State = c.reply_to_kernel-reply.new.self in
    let view : State → List ChangedTask → List HandedMutex → TrackedState =
    λ U changed handed. record { state = U; changed = changed; handed = handed } in
    ap (λ ts. view T (listed T ts) (filter_map (with_its_owner T) c.clear.new.self)) (noted c)
    ∙ ap (λ ms. view T (listed T (changed_tasks S T)) (filter_map (with_its_owner T) ms)) c.clear.ensures
    ∙ ap (λ (U : State). view U (listed U (changed_tasks S U)) []) c.reply_to_kernel-reply.ensures.state
    ∙ ap (λ (h : TrackedState). kernel_stepped h c.args.op) c.self.view_is

pub returns-clause-changed : goal.returns-clause-changed
returns-clause-changed c =
    let S : State = c.self.inside.manager in let T : State = c.reply_to_kernel-reply.new.self in
    ap (listed T) (noted c) ∙ ap (λ (h : TrackedState). listed T (changed_tasks h.state T)) c.self.view_is

pub invariant_of-self : goal.invariant_of-self
invariant_of-self c =
    let S : State = c.self.inside.manager in let T : State = c.reply_to_kernel-reply.new.self in
    let bases = ap (λ (U : State). length U.base) c.reply_to_kernel-reply.ensures.state ∙ bases_after_kernel S c.args.op in
    let none = ap (λ ms. length (filter_map (with_its_owner T) ms)) c.clear.ensures in (
      c.reply_to_kernel-reply.ensures.work.noted.0 ∙ c.restart.ensures.keeps ∙ c.self.invariant.0,
      subst (λ k. AreChanged k (effective_priority T) c.reply_to_kernel-reply.new.visits) (sym bases)
          (c.reply_to_kernel-reply.ensures.work.noted.2
          (unnoted_changed (length S.base) (effective_priority S) c.restart.new.self c.restart.ensures.none)),
      omega (arith, none),
    )

pub returns-clause-few : goal.returns-clause-few
returns-clause-few c =
    let S : State = c.self.inside.manager in let T : State = c.reply_to_kernel-reply.new.self in
    let most = c.reply_to_kernel-reply.ensures.most in let changed = changed_few S T in
    let tasks = c.tasks-tasks.ensures in let visits = c.get.ensures in
    omega (arith, most, changed, tasks.count, tasks.few, visits)
