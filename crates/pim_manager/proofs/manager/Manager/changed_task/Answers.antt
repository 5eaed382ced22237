use Rattle.std.proofs.Common.{subst, sym}
use Rattle.pim_base.specs.State.{State, IsTask}
use Rattle.pim_chain.specs.Views.{View, stored_at}
use Rattle.pim_chain.proofs.Walking.{settled_effective}
use Rattle.pim_manager.proofs.manager.Manager.changed_task.Goals as goal

pub returns : goal.returns
returns c =
    let v : View = c.self.inside.tables in
    let calm = c.self.invariant.calm in
    let known : IsTask v.state c.args.task =
    subst (λ (U : State). IsTask U c.args.task) (sym c.self.view_is) c.requires in
    cc (settled_effective v.state (stored_at v) calm.ready.sound calm.settled c.args.task known)
