-- What is kept of all waits that last.
use Rattle.std.specs.Prelude.{◌≡◌, ◌≢◌, ℕ, true, false, not, ◌&&◌, List, length, Option, Some, None}
use Rattle.std.specs.Prelude.{unwrap_or, if◌then◌else◌}
use Rattle.std.specs.Option.{option_and_then}
use Rattle.pim_base.specs.Lists.{nth, contains}
use Rattle.pim_fact_lines.specs.declared.line.Line.{Line}
use Rattle.pim_world.specs.Worlds.{World}
use Rattle.pim_world.specs.After.{after}
use Rattle.pim_rows.specs.Moments.{Moment, now, followed_by}
use Rattle.pim_world.specs.Standing.{standing, waits}
use Rattle.pim_rows.specs.Tallies.{Tally, tally}
use Rattle.pim_rows.specs.OpenWaits.{Follows, IsUntil, Begins, Renews, EndsWith}
use Rattle.pim_rows.specs.declared.open_wait.OpenWait.{OpenWait}

-- the wait of t that is kept, if one is. The list may end before t: then none is.
abbrev pub open_at : List (Option OpenWait) → ℕ → Option OpenWait
open_at opens t = unwrap_or (nth opens t) None

-- Each wait that is kept is that of its thread, and that of each thread which waits is kept.
pub record AreOpen (opens : List (Option OpenWait)) (ms : List Moment) : Type 0 where
  pub each : (t : ℕ) (w : OpenWait) → open_at opens t ≡ Some w → Follows w t ms
  pub all : (t : ℕ) → waits t (now ms) ≡ true → (w : OpenWait) × (open_at opens t ≡ Some w)

-- the times of the wait of the thread of a line, if that line ended one
abbrev pub ended_times : Option ℕ → List Moment → Line → Option Tally
ended_times thread ms l =
    option_and_then
    (λ t. if waits t (now ms) && not (waits t (after (now ms) l))
    then Some (tally t (followed_by ms l)) else None)
    thread

-- the times are those of the wait that was kept and has ended at this time, if one was
abbrev pub EndedAt : ℕ → Option OpenWait → Option Tally → Type 0
EndedAt clock None None = Unit {0}
EndedAt clock None (Some times) = ⊥
EndedAt clock (Some w) None = ⊥
EndedAt clock (Some w) (Some times) = EndsWith w clock times

-- of t a wait is kept that began in this world
abbrev pub BegunAt : World → ℕ → Option OpenWait → Type 0
BegunAt w t None = ⊥
BegunAt w t (Some new) = Begins new w.clock (standing w t)

-- all but what is kept of t is as before
abbrev pub SameBut : ℕ → List (Option OpenWait) → List (Option OpenWait) → Type 0
SameBut t old new = (n : ℕ) → n ≢ t → open_at new n ≡ open_at old n

-- what is kept is of no later time
abbrev pub AreUntil : ℕ → List (Option OpenWait) → Type 0
AreUntil clock opens = (t : ℕ) (w : OpenWait) → nth opens t ≡ Some (Some w) → IsUntil clock w

-- a wait that was kept has gone on in this world, and no other one is kept
abbrev pub GoneOn : World → ℕ → Option OpenWait → Option OpenWait → Type 0
GoneOn w t None None = Unit {0}
GoneOn w t None (Some new) = ⊥
GoneOn w t (Some old) None = ⊥
GoneOn w t (Some old) (Some new) = Renews old new w.clock (standing w t)

-- the same of what may be kept at a place
abbrev pub GoneOnAt : World → ℕ → Option (Option OpenWait) → Option (Option OpenWait) → Type 0
GoneOnAt w t None None = Unit {0}
GoneOnAt w t None (Some new) = ⊥
GoneOnAt w t (Some old) None = ⊥
GoneOnAt w t (Some old) (Some new) = GoneOn w t old new

-- of each thread that waits, and isn't one of these, the same holds in both worlds
abbrev pub AreSame : World → World → List ℕ → Type 0
AreSame w after ts =
    (t : ℕ) → waits t w ≡ true → contains ts t ≡ false → standing after t ≡ standing w t

-- a wait that is kept in a place isn't inverted
abbrev pub IsCalm : Option (Option OpenWait) → Type 0
IsCalm x = (o : OpenWait) → x ≡ Some (Some o) → o.standing.inverted ≡ None

-- each wait that is inverted is that of one of these threads
abbrev pub AreInverted : List ℕ → List (Option OpenWait) → Type 0
AreInverted ts opens = (t : ℕ) → contains ts t ≡ false → IsCalm (nth opens t)

-- of each thread whose wait is kept, and which isn't one of these, it is kept what holds in this
-- world
abbrev pub AreCurrent : World → List ℕ → List (Option OpenWait) → Type 0
AreCurrent w ts opens =
    (t : ℕ) (o : OpenWait)
    → nth opens t ≡ Some (Some o) → contains ts t ≡ false → o.standing ≡ standing w t

-- the waits of these threads have gone on, and the others are as they were
pub record SoFar (w : World) (ts : List ℕ) (old new : List (Option OpenWait)) : Type 0 where
  pub len : length new ≡ length old
  pub done : (t : ℕ) → contains ts t ≡ true → GoneOnAt w t (nth old t) (nth new t)
  pub left : (t : ℕ) → contains ts t ≡ false → nth new t ≡ nth old t
