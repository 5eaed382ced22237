-- What a log is.
use Rattle.std.specs.Prelude.{List}
use Rattle.pim_base.specs.State.{State}
use Rattle.pim_base.specs.declared.steps.Entry.{Entry}

-- the state at the start, and the steps since then with their replies
pub record History : Type 0 where
  pub start : State
  pub entries : List Entry
