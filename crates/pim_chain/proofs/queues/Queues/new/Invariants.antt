use Rattle.std.proofs.Common.{◌≡◌, replicate, [], length}
use Rattle.pim_chain.specs.Rooms.{IsRoomy, each_with}
use Rattle.pim_chain.proofs.queues.Queues.new.Given as goal

-- all are empty, and they have room as far as they go
abbrev pub invariant-loop-place : goal.invariant-loop-place
invariant-loop-place l = record {
  empty : each_with l.room l.queues.items ≡ replicate l.place (record { waiters = []; room = l.room });
  len : length l.queues.items ≡ l.place;
  roomy : IsRoomy l.room l.queues.items;
}
