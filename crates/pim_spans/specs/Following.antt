-- What is kept of the lines so far.
use Rattle.std.specs.Prelude.{◌≡◌, ◌≤◌, ◌+◌, ℕ, false, List, ◌∷◌, Option, Some, None}
use Rattle.pim_base.specs.Lists.{contains}
use Rattle.pim_fact_lines.specs.declared.line.Line.{Line}
use Rattle.pim_world.specs.After.{after}
use Rattle.pim_world.specs.Held.{world_of}
use Rattle.pim_rows.specs.Affected.{AreWaits}
use Rattle.pim_world.specs.Texts.{line_after}
use Rattle.pim_rows.specs.Moments.{Moment, now, number, followed_by}
use Rattle.pim_spans.specs.declared.kind.Kind.TheVariants as kinds
use Rattle.pim_spans.specs.declared.thread_tracks.ThreadTracks.{ThreadTracks}
use Rattle.pim_spans.specs.declared.follower.Follower.{Follower}
use Rattle.pim_spans.specs.Spans.{Window}
use Rattle.pim_spans.specs.Holding.{holding}
use Rattle.pim_spans.specs.Kept.{IsKept, AreKept, IsEither, kept_at}

-- what is kept of t is what these moments say
pub record IsThread (w : Window) (ms : List Moment) (k : ThreadTracks) (t : ℕ) : Type 0 where
  pub gets : IsKept w (holding kinds.Gets t) ms (kept_at k.gets.tracks.items t)
  pub waits : IsKept w (holding kinds.Waits t) ms (kept_at k.waits.tracks.items t)
  pub inverted : IsKept w (holding kinds.Inverted t) ms (kept_at k.inverted.tracks.items t)
  pub stalled : IsKept w (holding kinds.Stalled t) ms (kept_at k.stalled.tracks.items t)

abbrev pub AreThreads : Window → List Moment → ThreadTracks → Type 0
AreThreads w ms k = (t : ℕ) → 1 ≤ t → IsThread w ms k t

-- it is what was said before the newest line, or is after it
pub record IsThreadEither
    (w : Window) (m : Moment) (ms : List Moment) (k : ThreadTracks) (t : ℕ) : Type 0 where
  pub gets : IsEither w (holding kinds.Gets t) m ms (kept_at k.gets.tracks.items t)
  pub waits : IsEither w (holding kinds.Waits t) m ms (kept_at k.waits.tracks.items t)
  pub inverted : IsEither w (holding kinds.Inverted t) m ms (kept_at k.inverted.tracks.items t)
  pub stalled : IsEither w (holding kinds.Stalled t) m ms (kept_at k.stalled.tracks.items t)

-- the same is kept of t
pub record IsThreadLike (old new : ThreadTracks) (t : ℕ) : Type 0 where
  pub gets : kept_at new.gets.tracks.items t ≡ kept_at old.gets.tracks.items t
  pub waits : kept_at new.waits.tracks.items t ≡ kept_at old.waits.tracks.items t
  pub inverted : kept_at new.inverted.tracks.items t ≡ kept_at old.inverted.tracks.items t
  pub stalled : kept_at new.stalled.tracks.items t ≡ kept_at old.stalled.tracks.items t

-- the same holds of t after the newest line as before it
pub record IsUnmoved (m : Moment) (ms : List Moment) (t : ℕ) : Type 0 where
  pub gets : holding kinds.Gets t (m ∷ ms) ≡ holding kinds.Gets t ms
  pub waits : holding kinds.Waits t (m ∷ ms) ≡ holding kinds.Waits t ms
  pub inverted : holding kinds.Inverted t (m ∷ ms) ≡ holding kinds.Inverted t ms
  pub stalled : holding kinds.Stalled t (m ∷ ms) ≡ holding kinds.Stalled t ms

-- it does of each thread that isn't one of these
abbrev pub AreUnmoved : Moment → List Moment → List ℕ → Type 0
AreUnmoved m ms ts = (t : ℕ) → 1 ≤ t → contains ts t ≡ false → IsUnmoved m ms t

abbrev pub moment_of : List Moment → Line → Moment
moment_of ms line = record { number = number ms + 1; line = line; world = after (now ms) line }

-- the same of the line that follows these moments
abbrev pub AreUnmovedBy : List Moment → Line → List ℕ → Type 0
AreUnmovedBy ms line ts = AreUnmoved (moment_of ms line) ms ts

-- the thread, if there is one, in front of the others
abbrev pub with_first : Option ℕ → List ℕ → List ℕ
with_first None ts = ts
with_first (Some t) ts = t ∷ ts

-- it has followed these lines
pub record Follows (f : Follower) (ms : List Moment) : Type 0 where
  pub world : world_of f.world ≡ now ms
  pub waiting : AreWaits (now ms)
  pub number : f.number ≡ number ms
  pub threads : AreThreads f.window ms f.threads
  pub owns : AreKept f.window (holding kinds.Owns) ms (kept_at f.owns.tracks.items)

-- the bytes spell a line that may follow these, and it has followed that one, too
abbrev pub HasTaken : Follower → List Moment → List ℕ → Type 0
HasTaken f ms bytes =
    (line : Line) × (line_after (now ms) bytes ≡ Some line) × Follows f (followed_by ms line)
