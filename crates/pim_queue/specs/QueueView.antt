-- A queue as the list of its waiters, and how many it has room for.
use Rattle.std.specs.Prelude.{◌≤◌, ℕ, List, length}
use Rattle.pim_base.specs.declared.steps.Waiter.{Waiter}
use Rattle.pim_queue.specs.Waiters.{IsOrdered, IsApart}

pub record QueueView : Type 0 where
  pub waiters : List Waiter
  pub room : ℕ

-- other waiters, with the same room
abbrev pub with_waiters : QueueView → List Waiter → QueueView
with_waiters q ws = record q { waiters = ws }

-- the waiters are in order, no two have one task or one ticket, and there is room for all
pub record AreQueued (room : ℕ) (ws : List Waiter) : Type 0 where
  pub ordered : IsOrdered ws
  pub apart : IsApart ws
  pub fits : length ws ≤ room
