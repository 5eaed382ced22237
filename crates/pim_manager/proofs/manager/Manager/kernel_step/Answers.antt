use Rattle.std.proofs.Common.{◌∙◌, subst}
use Rattle.pim_manager.proofs.Kernel.{OwnersAreTasks, answered_alike, owned_stays}
use Rattle.pim_manager.proofs.manager.Manager.kernel_step.Goals as goal

pub returns-clause-alike : goal.returns-clause-alike
returns-clause-alike c task b =
    let owners = subst OwnersAreTasks c.self.view_is c.self.invariant.calm.ready.waits.owners in
    answered_alike c.args.self.now task c.args.op owners b

pub returns-clause-owned : goal.returns-clause-owned
returns-clause-owned c h =
    let owners = subst OwnersAreTasks c.self.view_is c.self.invariant.calm.ready.waits.owners in
    c.reply_to_kernel-reply.ensures.state ∙ owned_stays c.args.self.now c.args.op owners h
