-- What is kept of a wait that lasts.
use Rattle.std.specs.Prelude.{◌≡◌, ℕ, ◌-◌, ◌≤◌, true, false, List, ◌∷◌}
use Rattle.pim_rows.specs.Moments.{Moment, now, clock as clock_of}
use Rattle.pim_world.specs.declared.standing.Standing.{Standing}
use Rattle.pim_world.specs.Standing.{standing, waits}
use Rattle.pim_rows.specs.Tallies.{Tally, IsWithin, tally, with_time}
use Rattle.pim_rows.specs.declared.open_wait.OpenWait.{OpenWait}

-- what is kept is of no later time
pub record IsUntil (clock : ℕ) (w : OpenWait) : Type 0 where
  pub since : w.since ≤ clock
  pub within : IsWithin w.since w.tally

-- What is kept is of the wait of t: what holds of t after the newest line, since when, and for how
-- long what held before.
pub record Follows (w : OpenWait) (t : ℕ) (ms : List Moment) : Type 0 where
  pub lasts : waits t (now ms) ≡ true
  pub current : standing (now ms) t ≡ w.standing
  pub times : tally t ms ≡ with_time w.standing (clock_of ms - w.since) w.tally
  pub until : IsUntil (clock_of ms) w

-- after this line, at this time, t waits, and this holds of it
pub record ShowsWait (m : Moment) (t clock : ℕ) (s : Standing) : Type 0 where
  pub lasts : waits t m.world ≡ true
  pub at : m.world.clock ≡ clock
  pub current : standing m.world t ≡ s

-- it is of each wait that begins with a line, at this time, after which this holds
abbrev pub Begins : OpenWait → ℕ → Standing → Type 0
Begins w clock s =
    (t : ℕ) (ms : List Moment) (m : Moment)
    → waits t (now ms) ≡ false
    → ShowsWait m t clock s
    → Follows w t (m ∷ ms)

-- it is of each wait of which the old one was, after one line more, at this time, after which this
-- holds
abbrev pub GoesOn : OpenWait → OpenWait → ℕ → Standing → Type 0
GoesOn old new clock s =
    (t : ℕ) (ms : List Moment) (m : Moment)
    → Follows old t ms
    → clock_of ms ≤ m.world.clock
    → ShowsWait m t clock s
    → Follows new t (m ∷ ms)

-- It goes on so. A second line at this time, after which the same holds, changes nothing more.
pub record Renews (old new : OpenWait) (clock : ℕ) (s : Standing) : Type 0 where
  pub goes : GoesOn old new clock s
  pub current : new.standing ≡ s
  pub again : old.standing ≡ s → new ≡ old
  pub until : IsUntil clock new

-- the times are those of each wait of which this was, if a line at this time ends it
abbrev pub EndsWith : OpenWait → ℕ → Tally → Type 0
EndsWith w clock times =
    (t : ℕ) (ms : List Moment) (m : Moment)
    → Follows w t ms
    → clock_of ms ≤ m.world.clock
    → m.world.clock ≡ clock
    → times ≡ tally t (m ∷ ms)

-- the times are those of each wait of which this is, if this is the time now
abbrev pub HasTimes : OpenWait → ℕ → Tally → Type 0
HasTimes w clock times =
    (t : ℕ) (ms : List Moment) → Follows w t ms → clock_of ms ≡ clock → times ≡ tally t ms
