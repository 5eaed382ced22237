-- The state of the model that the lists of `Facts` hold, and what always holds of these.
use Rattle.std.specs.Prelude.{map}
use Rattle.std.specs.Option.{option_map}
use Rattle.pim_base.specs.State.{State, owner_of}
use Rattle.pim_waits.specs.declared.facts.Facts.TheInside.{Inside}
use Rattle.pim_waits.specs.Awaited.{awaited_of}
use Rattle.pim_waits.specs.Groups.{IsBy}
use Rattle.pim_waits.specs.declared.groups.Groups.{Groups}
use Rattle.pim_waits.specs.Model.{protocol_in_model, wait_for}
use Rattle.pim_waits.specs.Whole.{IsWhole}

abbrev pub state_of : Inside → State
state_of f = record {
  base = f.levels.items;
  protocol = map protocol_in_model f.protocols.items;
  owner = f.owners.items;
  count = f.counts.items;
  wait = map (option_map wait_for) f.awaited.items;
  next = 0;
}

-- each mutex is in the list of its owner, and each thread that waits in that of the mutex
pub record AreListed (S : State) (by_owner by_mutex : Groups) : Type 0 where
  pub whole : IsWhole S
  pub owned : IsBy by_owner (owner_of S)
  pub waiting : IsBy by_mutex (awaited_of S)

abbrev pub AreFacts : Inside → Type 0
AreFacts f = AreListed (state_of f) f.owned f.waiting
