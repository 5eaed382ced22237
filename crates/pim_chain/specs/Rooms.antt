-- The room of the queues. A task waits in one queue, so few queues are long at the same time.
use Rattle.std.specs.Prelude.{◌≡◌, ◌<◌, ◌+◌, ◌*◌, ◌&&◌, ℕ, Bool, nat_lt, not, List, [], ◌∷◌, length, map, if◌then◌else◌}
use Rattle.pim_queue.specs.QueueView.{QueueView}

-- how many wait in all queues together
abbrev pub total : List QueueView → ℕ
total [] = 0
total (q ∷ qs) = length q.waiters + total qs

-- how many of the queues have room for n waiters
abbrev pub with_room : ℕ → List QueueView → ℕ
with_room n [] = 0
with_room n (q ∷ qs) = (if nat_lt q.room n then 0 else 1) + with_room n qs

-- if some queue has no room for n waiters, not even all others and one more could have n waiters at the same time
abbrev pub IsRoomy : ℕ → List QueueView → Type 0
IsRoomy tasks qs = (n : ℕ) → with_room n qs < length qs → tasks < (with_room n qs + 1) * n

-- the queue can lend its room to one that has this many waiters and gets one more
abbrev pub can_lend : ℕ → QueueView → Bool
can_lend few q = nat_lt few q.room && not (nat_lt few (length q.waiters))

-- the queues with this room each
abbrev pub each_with : ℕ → List QueueView → List QueueView
each_with room qs = map (λ (q : QueueView). record q { room = room }) qs
