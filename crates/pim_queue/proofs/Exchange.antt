-- Two lists of waiters that exchange their buffers.
use Rattle.std.proofs.Common.{◌≡◌, ℕ, ◌≤◌, sym, arith, List, ◌++◌, take, drop, length}
use Rattle.std.proofs.lemmas.List.{take-append-drop, take_at, drop_at, length-take-le, length-append, length-drop, with_items_is}
use Rattle.pim_base.specs.declared.steps.Waiter.{Waiter}

-- what went to the front of the other list, and what followed it there
pub together :
    (few : ℕ) (fs ws : List Waiter)
    → few ≡ length fs
    → take few ws ++ drop few (fs ++ drop few ws) ≡ ws
together few fs ws is = rw (drop_at fs (drop few ws) few (sym is)) (take-append-drop few ws)

pub ruleset exchanged = (with_items_is, together, take_at, length-take-le, length-append, length-drop)
