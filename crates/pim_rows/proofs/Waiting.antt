-- A wait that lasts.
use Rattle.std.proofs.Common.{◌≡◌, ◌∙◌, ℕ, ◌+◌, ◌-◌, ◌≤◌, true, false, sym, ap, subst, arith, List}
use Rattle.std.proofs.Common.{◌∷◌}
use Rattle.std.proofs.lemmas.Bool.{cond-true, cond-false}
use Rattle.pim_rows.specs.Moments.{Moment, now, clock, stretch}
use Rattle.pim_world.specs.declared.standing.Standing.{Standing}
use Rattle.pim_world.specs.Standing.{standing, waits}
use Rattle.pim_rows.specs.Tallies.{Tally, IsWithin, tally, no_tally, with_time}
use Rattle.pim_rows.specs.OpenWaits.{IsUntil, Follows, ShowsWait}
use Rattle.pim_rows.specs.declared.open_wait.OpenWait.{OpenWait}
use Rattle.pim_rows.proofs.Summed.{with_time-with_time, with_time-zero, IsWithin-with_time}

pub IsUntil-later :
    (w : OpenWait) (clock later : ℕ)
    → clock ≤ later
    → IsUntil clock w
    → IsUntil later w
IsUntil-later w clock later le until =
    let since = until.since in record { since = omega arith; within = until.within }

-- all that held until a line after which the wait lasts or has ended
pub tally-followed : (w : OpenWait) (t : ℕ) (ms : List Moment) (m : Moment) →
    Follows w t ms → clock ms ≤ m.world.clock →
    tally t (m ∷ ms) ≡ with_time w.standing (m.world.clock - w.since) w.tally
tally-followed w t ms m follows later =
    let before = follows.until.since in
    let all : (clock ms - w.since) + stretch m ms ≡ m.world.clock - w.since = omega arith in
    cond-true _ _ _ follows.lasts
    ∙ ap (λ s. with_time s (stretch m ms) (tally t ms)) follows.current
    ∙ ap (λ before. with_time w.standing (stretch m ms) before) follows.times
    ∙ with_time-with_time w.standing (stretch m ms) (clock ms - w.since) w.tally
    ∙ ap (λ n. with_time w.standing n w.tally) all

-- What is kept needs no change by a line after which the same holds of the thread.
pub Follows-same : (w : OpenWait) (t : ℕ) (ms : List Moment) (m : Moment) →
    Follows w t ms → clock ms ≤ m.world.clock
    → waits t m.world ≡ true → standing m.world t ≡ standing (now ms) t →
    Follows w t (m ∷ ms)
Follows-same w t ms m follows later lasts same = record {
  lasts = lasts;
  current = same ∙ follows.current;
  times = tally-followed w t ms m follows later;
  until = IsUntil-later w (clock ms) m.world.clock later follows.until;
}

-- the times until now are within the clock
pub within_added :
    (w : OpenWait) (times : Tally) (clock : ℕ)
    → times ≡ with_time w.standing (clock - w.since) w.tally
    → IsUntil clock w
    →
    IsWithin clock times
within_added w times clock added until =
    let since = until.since in
    let all : w.since + (clock - w.since) ≡ clock = omega arith in
    rw added (subst (λ n. IsWithin n (with_time w.standing (clock - w.since) w.tally)) all
    (IsWithin-with_time w.standing (clock - w.since) w.since w.tally until.within))

-- another standing takes the place of the last one
pub Follows-other :
    (w : OpenWait)
    (times : Tally) (t : ℕ) (ms : List Moment) (m : Moment) (clock' : ℕ) (s : Standing)
    →
    times ≡ with_time w.standing (clock' - w.since) w.tally →
    Follows w t ms → clock ms ≤ m.world.clock → ShowsWait m t clock' s →
    Follows (record { since = clock'; standing = s; tally = times }) t (m ∷ ms)
Follows-other w times t ms m clock' s added follows later shows =
    let before = follows.until.since in
    let at = shows.at in
    let none : 0 ≡ m.world.clock - clock' = omega arith in
    let all : m.world.clock - w.since ≡ clock' - w.since = omega arith in
    let whole : w.since + (clock' - w.since) ≡ clock' = omega arith in
    record {
      lasts = shows.lasts;
      current = shows.current;
      times =
          tally-followed w t ms m follows later
          ∙ ap (λ n. with_time w.standing n w.tally) all
          ∙ sym added
          ∙ sym (with_time-zero s times)
          ∙ ap (λ n. with_time s n times) none;
      until = record {
        since = omega arith;
        within =
            rw added
            (subst (λ n. IsWithin n (with_time w.standing (clock' - w.since) w.tally)) whole
            (IsWithin-with_time w.standing
            (clock' - w.since) w.since w.tally follows.until.within));
      };
    }

-- a wait that began with the newest line
pub Follows-new :
    (t : ℕ) (ms : List Moment) (m : Moment) (clock' : ℕ) (s : Standing) (times : Tally)
    →
    times ≡ no_tally → waits t (now ms) ≡ false → ShowsWait m t clock' s →
    Follows (record { since = clock'; standing = s; tally = times }) t (m ∷ ms)
Follows-new t ms m clock' s times none before shows =
    let at = shows.at in
    let no : 0 ≡ m.world.clock - clock' = omega arith in
    record {
      lasts = shows.lasts;
      current = shows.current;
      times =
          cond-false _ _ _ before
          ∙ sym none
          ∙ sym (with_time-zero s times)
          ∙ ap (λ n. with_time s n times) no;
      until = record {
        since = omega arith;
        within =
            rw none (record {
              lower = omega arith;
              inverted = omega arith;
              stalled = omega arith;
              meanwhile = omega arith;
            });
      };
    }
