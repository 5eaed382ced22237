use Rattle.std.proofs.Common.{◌∙◌, ap, length}
use Rattle.pim_chain.specs.Views.{View, stored_at}
use Rattle.pim_chain.proofs.Fields.{stored_written, stored_free, ready_after}
use Rattle.pim_chain.proofs.Told.{worked-noted}
use Rattle.pim_chain.proofs.Visit.{stored_now, stored_else, ready_restored}
use Rattle.pim_chain.proofs.tables.Tables.settle_idle.Goals as goal

pub returns-clause-ready : goal.returns-clause-ready
returns-clause-ready c =
    ready_after c.self.view_is (stored_free c.local-prio.result c.self.view_is c.put.ensures c.get.ensures c.requires.idle)
    (ready_restored c.args.self.now c.args.task c.local-prio.result c.requires.known) c.self.invariant.ready

pub invariant_of-self : goal.invariant_of-self
invariant_of-self c = record {
  ready =
      ready_after c.self.view_is (stored_free c.local-prio.result c.self.view_is c.put.ensures c.get.ensures c.requires.idle)
      (ready_restored c.args.self.now c.args.task c.local-prio.result c.requires.known) c.self.invariant.ready;
  owned = c.self.invariant.owned;
}

pub returns-clause-right : goal.returns-clause-right
returns-clause-right c =
    let v : View = c.args.self.now in
    record {
      state = ap (λ (w : View). w.state) (stored_written c.local-prio.result c.self.view_is c.put.ensures c.get.ensures);
      queues = ap (λ (w : View). w.queues) (stored_written c.local-prio.result c.self.view_is c.put.ensures c.get.ensures);
      local =
          ap (λ (w : View). stored_at w c.args.task) (stored_written c.local-prio.result c.self.view_is c.put.ensures c.get.ensures)
          ∙ stored_now v c.args.task c.local-prio.result c.local-prio.ensures.ready c.requires.known
          ∙ c.local-prio.ensures.value;
      others = λ u ne. ap (λ (w : View). stored_at w u) (stored_written c.local-prio.result c.self.view_is c.put.ensures c.get.ensures) ∙ stored_else v c.args.task c.local-prio.result u ne;
    }

pub returns-clause-work : goal.returns-clause-work
returns-clause-work c =
    worked-noted (length c.args.self.now.state.base) (stored_at c.args.self.now) _ c.args.visits.now c.local-prio.new.visits c.note.new.self
    c.args.task c.known_stored-had.result c.local-prio.result c.requires.known c.local-prio.ensures.counted
    c.known_stored-had.ensures c.note.ensures
    (ap (λ (w : View). stored_at w c.args.task) (stored_written c.local-prio.result c.self.view_is c.put.ensures c.get.ensures)
    ∙ stored_now c.args.self.now c.args.task c.local-prio.result c.local-prio.ensures.ready c.requires.known)
    (λ u ne. ap (λ (w : View). stored_at w u) (stored_written c.local-prio.result c.self.view_is c.put.ensures c.get.ensures) ∙ stored_else c.args.self.now c.args.task c.local-prio.result u ne)
