-- What a handle owns.
use Rattle.std.specs.Prelude.{Option, None, Some}
use base.Fml.{Fml, feq}
use denote.RawPtr.{Ptr, null_ptr}
use Rattle.std.specs.Box.Ownership.{box_owns}
use Rattle.std.specs.contracts.impls.GlobalAllocator.TheImpl.{ghosts}
use Rattle.std.specs.declared.alloc.Global.{Global}
use Rattle.pim_manager.specs.Changed.{TrackedState}
use Rattle.pim_c.specs.declared.raw_box.RawBox.{RawBox}
use Rattle.pim_manager.specs.contracts.tracked_manager.TrackedManager.{the_row}

-- the manager at the pointer, with the right to free its memory, or nothing at null
abbrev pub owns_held : Global → Option TrackedState → Ptr → Fml
owns_held alloc (Some h) p = box_owns (ghosts.dealloc_token alloc) the_row p h
owns_held alloc None p = feq Ptr p null_ptr

-- the value behind the pointer
abbrev pub raw_value : {X Z : Type 0} → RawBox X Z → X
raw_value raw = raw.value
