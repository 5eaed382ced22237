use Rattle.std.proofs.Common.{◌≡◌, map}
use Rattle.std.specs.Prelude.{take}
use Rattle.pim_ffi.specs.Copied.{copied}
use Rattle.pim_c.specs.Shapes.{c_waiter}
use Rattle.pim_c.proofs.lists.copy_waiters.Given as goal

abbrev pub invariant-loop-place : goal.invariant-loop-place
invariant-loop-place l = l.to ≡ copied (map c_waiter (take l.place l.from)) l.fn.to
