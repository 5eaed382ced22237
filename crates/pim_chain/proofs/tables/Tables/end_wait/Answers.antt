use Rattle.std.proofs.Common.{◌≡◌, sym, rules}
use Rattle.pim_base.specs.declared.steps.Wait.{Wait}
use Rattle.pim_chain.specs.Shown.{shown}
use Rattle.pim_chain.specs.Views.{stored_at}
use Rattle.pim_chain.specs.Settled.{left}
use Rattle.pim_chain.proofs.Changes.{ready_left}
use Rattle.pim_chain.proofs.Fields.{waiter_fits, stands_in, ready_after, settled_after}
use Rattle.pim_chain.proofs.Waiting.{waiting_known}
use Rattle.pim_chain.proofs.Unsettled.{left_unsettles}
use Rattle.pim_chain.proofs.tables.Tables.end_wait.Goals as goal

pub put-requires : goal.put-requires
put-requires c =
    let fits = waiter_fits c.self.view_is c.self.invariant.ready c.requires in
    rw c.get.ensures (record { least = fits.0; most = fits.1 })

pub remove-requires : goal.remove-requires
remove-requires c =
    let fits = waiter_fits c.self.view_is c.self.invariant.ready c.requires in
    record {
      least = fits.2;
      most = fits.3;
      waits =
          rw c.waiter-leaver.ensures (stands_in (shown c.self.inside) c.args.self.now c.args.task (record { mutex = c.args.mutex; ticket = c.args.ticket })
          c.self.view_is (sym c.requires) c.self.invariant.ready);
    }

pub returns : goal.returns
returns c =
    let v = c.args.self.now in
    let w : Wait = record { mutex = c.args.mutex; ticket = c.args.ticket } in
    let lists = c.tasks-tasks.ensures.ready.sound.lists in
    let is : shown (record c.self.inside { wait = c.put.new.items; queues = c.remove.new.self }) ≡ left v c.args.task c.args.mutex = search rules in
    record {
      left = is;
      unsettles = λ settled. settled_after is
          (left_unsettles v.state (stored_at v) c.args.task lists (waiting_known v.state lists c.args.task w c.requires) settled);
      ready = ready_after c.self.view_is is (ready_left v c.args.task w c.requires) c.self.invariant.ready;
    }

pub invariant_of-self : goal.invariant_of-self
invariant_of-self c = record { ready = (returns c).ready; owned = c.self.invariant.owned }
