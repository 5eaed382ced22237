use Rattle.std.proofs.Common.{sym, ◌∙◌, rules}
use Rattle.pim_chain.proofs.Hopping.{contains_onward}
use Rattle.pim_chain.proofs.tables.Tables.known_on_chain.Goals as goal

pub loop-waits-preserved : goal.loop-waits-preserved
loop-waits-preserved c =
    let ready = c.tasks-tasks.ensures.ready in
    let next = c.in-Some-known_owner.next in
    rw c.known_wait-waits-in-Some-2.ensures (
      rw c.in-Some.is at c.loop-waits.invariant.0
          ∙ contains_onward c.args.self.now ready c.in-Some.wait next c.args.task (sym c.known_owner.ensures ∙ c.in-Some-known_owner.is) (search rules),
      ready.waits.mutexes next,
    )
