use Rattle.std.proofs.Common.{◌≡◌, ◌∙◌, ap, arith, length, List, sym, subst}
use Rattle.pim_sets.specs.Work.{AreChanged}
use Rattle.pim_base.specs.State.{State}
use Rattle.pim_base.specs.Reports.{changed_tasks}
use Rattle.pim_base.specs.Priorities.{effective_priority}
use Rattle.pim_sets.specs.Work.{noted_tasks}
use Rattle.std.specs.List.{filter_map}
use Rattle.pim_base.specs.Steps.{reply_of}
use Rattle.pim_manager.specs.Changed.{TrackedState, listed, stepped}
use Rattle.pim_manager.specs.Handed.{handed_mutexes, with_its_owner}
use Rattle.pim_manager.specs.Released.{released_at_once, released_then, unlocked}
use Rattle.pim_manager.specs.declared.handed_mutexes.HandedMutex.{HandedMutex}
use Rattle.pim_manager.proofs.Handing.{few_handed, handed_by_step, mutexes_after, unlocked_known}
use Rattle.pim_manager.specs.declared.changed_tasks.ChangedTask.{ChangedTask}
use Rattle.pim_manager.proofs.Listing.{bases_after, changed_few, handed_few, noted_tasks_of_step, unnoted_changed}
use Rattle.pim_manager.proofs.tracked_manager.TrackedManager.step.Goals as goal

-- what the notes tell of the manager's new state
noted :
    (c : goal.After-get)
    → noted_tasks c.reply_to-reply.new.visits
    ≡ changed_tasks c.self.inside.manager c.reply_to-reply.new.self
noted c =
    let S : State = c.self.inside.manager in
    let tasks = c.tasks-tasks.ensures in
    noted_tasks_of_step S c.reply_to-reply.new.self c.restart.new.self c.reply_to-reply.new.visits
    (omega (arith, tasks.count, tasks.few))
    c.reply_to-reply.ensures.work (c.restart.ensures.keeps ∙ c.self.invariant.0) c.restart.ensures.none

-- what was released tells of the mutexes that were handed over
handed :
    (c : goal.After-get)
    → filter_map (with_its_owner c.reply_to-reply.new.self) c.note.new.self
    ≡ handed_mutexes c.self.inside.manager c.reply_to-reply.new.self
handed c =
    let S : State = c.self.inside.manager in let T : State = c.reply_to-reply.new.self in let step = c.args.step in
    ap (filter_map (with_its_owner T))
    (c.note.ensures ∙ ap (λ ms. released_then ms c.unlocked-unlocked.result c.reply_to-reply.result) c.restart-2.ensures
    ∙ ap (λ o. released_then (released_at_once S step.actor step.op) o c.reply_to-reply.result) c.unlocked-unlocked.ensures
    ∙ ap (released_then (released_at_once S step.actor step.op) (unlocked step.op)) c.reply_to-reply.ensures.reply)
    ∙ subst
    (λ (U : State). filter_map (with_its_owner U)
    (released_then (released_at_once S step.actor step.op) (unlocked step.op) (reply_of S step)) ≡ handed_mutexes S U)
    (sym c.reply_to-reply.ensures.state) (handed_by_step S step c.tasks-tasks.ensures.steady)

pub note-requires : goal.note-requires
note-requires c m t is handed =
    let S : State = c.self.inside.manager in
    let mutexes = c.mutexes-mutexes.ensures in
    let known =
    unlocked_known S c.args.step m t (sym c.unlocked-unlocked.ensures ∙ is) (sym c.reply_to-reply.ensures.reply ∙ handed) in
    let most = known.1 in
    omega (arith, most, mutexes.count, mutexes.few)

pub returns-clause-state : goal.returns-clause-state
returns-clause-state c =
    let S : State = c.self.inside.manager in let T : State = c.reply_to-reply.new.self in
    let view : State → List ChangedTask → List HandedMutex → TrackedState =
    λ U changed handed. record { state = U; changed = changed; handed = handed } in
    ap (λ ts. view T (listed T ts) (filter_map (with_its_owner T) c.note.new.self)) (noted c)
    ∙ ap (view T (listed T (changed_tasks S T))) (handed c)
    ∙ ap (λ (U : State). view U (listed U (changed_tasks S U)) (handed_mutexes S U)) c.reply_to-reply.ensures.state
    ∙ ap (λ (h : TrackedState). stepped h c.args.step) c.self.view_is

pub returns-clause-changed : goal.returns-clause-changed
returns-clause-changed c =
    let S : State = c.self.inside.manager in let T : State = c.reply_to-reply.new.self in
    ap (listed T) (noted c) ∙ ap (λ (h : TrackedState). listed T (changed_tasks h.state T)) c.self.view_is

pub returns-clause-handed : goal.returns-clause-handed
returns-clause-handed c =
    handed c ∙ ap (λ (h : TrackedState). handed_mutexes h.state c.reply_to-reply.new.self) c.self.view_is

pub invariant_of-self : goal.invariant_of-self
invariant_of-self c =
    let S : State = c.self.inside.manager in let T : State = c.reply_to-reply.new.self in
    let bases = ap (λ (U : State). length U.base) c.reply_to-reply.ensures.state ∙ bases_after S c.args.step in
    let mutexes = ap (λ (U : State). length U.protocol) c.reply_to-reply.ensures.state ∙ mutexes_after S c.args.step in
    let list = ap length (handed c) in
    let few = few_handed S T in (
      c.reply_to-reply.ensures.work.noted.0 ∙ c.restart.ensures.keeps ∙ c.self.invariant.0,
      subst (λ k. AreChanged k (effective_priority T) c.reply_to-reply.new.visits) (sym bases)
          (c.reply_to-reply.ensures.work.noted.2
          (unnoted_changed (length S.base) (effective_priority S) c.restart.new.self c.restart.ensures.none)),
      omega (arith, mutexes, list, few),
    )

pub returns-clause-few : goal.returns-clause-few
returns-clause-few c =
    let S : State = c.self.inside.manager in let T : State = c.reply_to-reply.new.self in
    let most = c.reply_to-reply.ensures.most in
    let changed = changed_few S T in let handed = handed_few S T in
    let tasks = c.tasks-tasks.ensures in let mutexes = c.mutexes-mutexes.ensures in
    let visits = c.get.ensures in
    omega (arith, most, changed, handed, tasks.count, tasks.few, mutexes.count, mutexes.few, visits)
