use Rattle.std.proofs.Common.{◌∙◌, ap, ℕ, subst, sym}
use Rattle.pim_base.specs.State.{State, IsTask}
use Rattle.pim_base.specs.Priorities.{effective_priority}
use Rattle.pim_chain.specs.Views.{View, stored_at}
use Rattle.pim_chain.proofs.Walking.{settled_effective}
use Rattle.pim_manager.specs.declared.changed_prios.ChangedPrio.{ChangedPrio}
use Rattle.pim_manager.proofs.manager.Manager.changed_prio.Goals as goal

abbrev with_prio : ℕ → ℕ → ChangedPrio
with_prio t p = record { task = t; prio = p }

pub returns : goal.returns
returns c =
    let v : View = c.self.inside.tables in
    let calm = c.self.invariant.calm in
    let known : IsTask v.state c.args.task =
    subst (λ (U : State). IsTask U c.args.task) (sym c.self.view_is) c.requires in
    ap (with_prio c.args.task)
    (c.known_stored.ensures
    ∙ settled_effective v.state (stored_at v) calm.ready.sound calm.settled c.args.task known
    ∙ ap (λ (U : State). effective_priority U c.args.task) c.self.view_is)
