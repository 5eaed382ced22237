-- What always holds of `Waits`.
use Rattle.std.specs.Prelude.{◌≡◌, ◌≤◌, length}
use Rattle.pim_waits.specs.declared.waits.Waits.TheInside.{Inside}
use Rattle.pim_waits.specs.Flow.{Flows, level_at, nobody}
use Rattle.pim_waits.specs.Whole.{IsWhole}

-- what is kept for each thread is what the thread gets: all levels have been passed on
pub record IsSettled (w : Inside) : Type 0 where
  pub whole : IsWhole w.facts
  pub len : length w.gets.items ≡ length w.facts.base
  pub flows : Flows w.facts (level_at w.gets.items) nobody
  pub room : w.component.room ≤ length w.facts.base
