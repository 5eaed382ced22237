use Rattle.pim_chain.specs.Shown.{shown}
use Rattle.std.proofs.Common.{refl, ◌∙◌, ap, Some}
use Rattle.pim_base.specs.Lists.{put}
use Rattle.pim_chain.proofs.Changes.{ready_owned}
use Rattle.pim_chain.proofs.Fields.{owner_written, ready_after}
use Rattle.pim_chain.proofs.Owning.{bound_sets}
use Rattle.pim_chain.proofs.tables.Tables.put_owner.Goals as goal

pub returns : goal.returns
returns c =
    let v = c.args.self.now in
    let is = owner_written (Some c.args.task) c.self.view_is c.put.ensures c.get.ensures c.put_first_count.ensures refl in
    record {
      state = is;
      ready = ready_after c.self.view_is is (ready_owned v c.args.mutex c.args.task c.requires.known c.requires.sound) c.self.invariant.ready;
    }

pub invariant_of-self : goal.invariant_of-self
invariant_of-self c = record {
  ready = (returns c).ready;
  owned =
      bound_sets (shown c.self.inside) c.args.self.now c.self.view_is c.self.invariant.ready c.self.inside.owned c.self.invariant.owned
      c.args.mutex c.args.task c.put.new.items.items c.insert.new.self c.requires.mutex c.requires.free c.requires.known
      (c.put.ensures ∙ ap (λ n. put c.self.inside.owner.items n (Some c.args.task)) c.get.ensures)
      c.insert.ensures.len c.insert.ensures.inserted c.insert.ensures.others;
}
