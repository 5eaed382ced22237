-- What one line more means for what lasts.
use Rattle.std.proofs.Common.{◌≡◌, ◌≢◌, ℕ, ◌+◌, Bool, not, ◌&&◌, List, Option, Some, None, sym, ◌∙◌}
use Rattle.std.proofs.Common.{ap, is_some, if◌then◌else◌}
use Rattle.std.proofs.lemmas.Option.{same_Some}
use Rattle.pim_fact_lines.specs.declared.line.Line.{Line}
use Rattle.pim_world.specs.Worlds.{World}
use Rattle.pim_world.specs.After.{after, set}
use Rattle.pim_rows.specs.Moments.{Moment, now, number, followed_by}
use Rattle.pim_world.specs.Standing.{waits}
use Rattle.pim_rows.specs.Begun.{is_blocked, is_owned}
use Rattle.pim_rows.specs.Found.{actor, mutex_of}
use Rattle.pim_rows.specs.Kept.{AreStarts}
use Rattle.pim_rows.proofs.Starting.{starts_kept, starts_followed}
use Rattle.pim_rows.proofs.Frames.{wait-after, blocked-after, owner-after}

-- whoever isn't the one that a line names
other_than :
    (place : Option ℕ) (n k : ℕ)
    → place ≡ Some n
    → n ≢ k
    → (j : ℕ)
    → place ≡ Some j
    → j ≢ k
other_than place n k is_n ne j is_j e = ne (same_Some n j (sym is_n ∙ is_j) ∙ e)

nobody : (place : Option ℕ) (k : ℕ) → place ≡ None → (j : ℕ) → place ≡ Some j → j ≢ k
nobody place k is_none j is_j e = cc

module _ {D : Type 0} (start : ℕ → List Moment → D) (ms : List Moment) (l : Line) where
  abbrev pub moment : Moment
  moment = record { number = number ms + 1; line = l; world = after (now ms) l }

  -- what a line changes of one number alone, which it names
  pub follows :
      (holds : ℕ → World → Bool) (place : Option ℕ)
      → ((k : ℕ)
      → ((j : ℕ) → place ≡ Some j → j ≢ k) → holds k (after (now ms) l) ≡ holds k (now ms))
      → (old new : ℕ → Option D) (n : ℕ) (was is : Bool)
      → place ≡ Some n → was ≡ holds n (now ms) → is ≡ holds n (after (now ms) l)
      → new ≡ (if not was && is then set n (Some (start n (followed_by ms l))) old else old)
      → AreStarts holds start old ms → AreStarts holds start new (followed_by ms l)
  follows holds place others old new n was is is_n was_is is_is e are =
      starts_followed holds start moment ms old new n was is
      (λ k ne. others k (other_than place n k is_n ne)) was_is is_is e are

  pub blocks_followed :
      (old new : ℕ → Option D) (t : ℕ) (was is : Bool)
      → actor (now ms) l ≡ Some t
      → was ≡ is_blocked t (now ms)
      → is ≡ is_blocked t (after (now ms) l)
      → new ≡ (if not was && is then set t (Some (start t (followed_by ms l))) old else old)
      → AreStarts is_blocked start old ms → AreStarts is_blocked start new (followed_by ms l)
  blocks_followed old new t was is =
      follows is_blocked
      (actor (now ms) l) (λ k ne. ap is_some (blocked-after l k (now ms) ne)) old new t was is

  pub waits_followed :
      (old new : ℕ → Option D) (t : ℕ) (was is : Bool)
      → actor (now ms) l ≡ Some t
      → was ≡ waits t (now ms)
      → is ≡ waits t (after (now ms) l)
      → new ≡ (if not was && is then set t (Some (start t (followed_by ms l))) old else old)
      → AreStarts waits start old ms → AreStarts waits start new (followed_by ms l)
  waits_followed old new t was is =
      follows waits
      (actor (now ms) l) (λ k ne. ap is_some (wait-after l k (now ms) ne)) old new t was is

  pub grants_kept :
      (old : ℕ → Option D)
      → mutex_of (now ms) l ≡ None
      → AreStarts is_owned start old ms
      → AreStarts is_owned start old (followed_by ms l)
  grants_kept old none are =
      starts_kept is_owned start moment ms old
      (λ k. ap is_some (owner-after l k (now ms) (nobody (mutex_of (now ms) l) k none))) are

  pub grants_followed :
      (old new : ℕ → Option D) (m : ℕ) (was is : Bool)
      → mutex_of (now ms) l ≡ Some m
      → was ≡ is_owned m (now ms)
      → is ≡ is_owned m (after (now ms) l)
      → new ≡ (if not was && is then set m (Some (start m (followed_by ms l))) old else old)
      → AreStarts is_owned start old ms → AreStarts is_owned start new (followed_by ms l)
  grants_followed old new m was is =
      follows is_owned
      (mutex_of (now ms) l) (λ k ne. ap is_some (owner-after l k (now ms) ne)) old new m was is
