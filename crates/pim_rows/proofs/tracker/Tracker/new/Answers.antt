use Rattle.std.proofs.Common.{refl, []}
use Rattle.pim_world.specs.Standing.{waits}
use Rattle.pim_rows.specs.Begun.{is_blocked, is_owned, wait_start, block, grant}
use Rattle.pim_rows.specs.Kept.{kept_of}
use Rattle.pim_rows.proofs.Starting.{nothing_waits, nothing_is_blocked, nothing_is_owned, no_starts}
use Rattle.pim_rows.proofs.Appended.{puts_none}
use Rattle.pim_rows.proofs.RunChanges.{IsEven-first}
use Rattle.pim_rows.proofs.KeptLevels.{levels_at_first}
use Rattle.pim_rows.proofs.SameStanding.{AreWaits-first}
use Rattle.pim_rows.proofs.tracker.Tracker.new.Goals as goal

pub returns : goal.returns
returns c = record {
  world = c.new.ensures;
  even = IsEven-first;
  waiting = AreWaits-first;
  number = refl;
  starts = no_starts waits wait_start (kept_of c.new-2.result.starts) nothing_waits;
  opens = c.new-3.ensures;
  blocks = no_starts is_blocked block (kept_of c.new-4.result.starts) nothing_is_blocked;
  grants = no_starts is_owned grant (kept_of c.new-5.result.starts) nothing_is_owned;
  off_times = c.new-6.ensures;
  levels = levels_at_first (kept_of c.new-7.result.apart) c.new-7.ensures;
  runs = c.new-8.ensures;
  sections = c.new-9.ensures;
  nests = c.new-10.ensures;
  written = rw c.new-11.ensures.items (puts_none []);
}
