use Rattle.std.proofs.Common.{◌≡◌, ℕ, length}
use Rattle.pim_waits.specs.Groups.{group_in}
use Rattle.pim_waits.proofs.groups.make_room.Given as goal

-- there are so many lists, and no number more
abbrev pub invariant-loop-place : goal.invariant-loop-place
invariant-loop-place l = record {
  room : length l.lists.items ≡ l._place;
  same : (one : ℕ) → group_in l.lists.items one ≡ group_in l.fn.lists.items one;
}
