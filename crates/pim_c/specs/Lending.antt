-- What a handle lends.
use Rattle.std.specs.Prelude.{Option, Some}
use Rattle.std.specs.Borrow.{Lends, LendsIf, MutBor, Fml}
use Rattle.pim_manager.specs.Changed.{TrackedState}
use Rattle.pim_c.specs.declared.handle.Handle.{Handle}
use Rattle.pim_c.specs.contracts.handle.Handle as handle
use Rattle.pim_manager.specs.contracts.tracked_manager.TrackedManager as tracked

-- the handle with this manager
abbrev pub with_held : Handle → TrackedState → Handle
with_held h w = record h { held = Some w }

-- the handle ends with what is left behind the reference
abbrev pub lends_held : MutBor Handle → MutBor TrackedState → Fml
lends_held h r = Lends handle.the_row tracked.the_row h r (with_held h.now)

-- the same if there is a reference, and else the handle is unchanged
abbrev pub lends_get : MutBor Handle → Option (MutBor TrackedState) → Fml
lends_get h r = LendsIf handle.the_row tracked.the_row h r (with_held h.now) h.now
