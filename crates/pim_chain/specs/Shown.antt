-- What the fields of the tables show.
use Rattle.std.specs.Prelude.{length}
use Rattle.pim_chain.specs.Views.{View, Ready}
use Rattle.pim_sets.specs.Sets.{AreOwned}
use Rattle.pim_chain.specs.declared.tables.Tables.TheInside.{Inside}

abbrev pub shown : Inside → View
shown t = record {
  state = record {
    base = t.base.items;
    protocol = t.protocol.items;
    owner = t.owner.items;
    count = t.count.items;
    wait = t.wait.items;
    next = t.next;
  };
  stored = t.stored.items;
  queues = t.queues;
}

-- what always holds of the fields
pub record AreTables (t : Inside) : Type 0 where
  pub ready : Ready (shown t)
  pub owned : AreOwned (length t.base.items) t.owner.items t.owned
