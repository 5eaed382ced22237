-- Which line may follow: 'Which line may follow' of docs/FACTS.md.
use Rattle.std.specs.Prelude.{ℕ, ◌==◌, Bool, true, false, not, ◌&&◌, ◌||◌, length, Option, is_none}
use Rattle.std.specs.Prelude.{is_some, nat_lt}
use Rattle.std.specs.Option.{option_map_or}
use Rattle.pim_base.specs.State.{owner_of, protocol_of}
use Rattle.pim_base.specs.Priorities.{ceiling}
use Rattle.pim_fact_lines.specs.declared.line.Ended.{Ended}
use Rattle.pim_fact_lines.specs.declared.line.Ended.TheVariants as ends
use Rattle.pim_fact_lines.specs.declared.line.What.{What}
use Rattle.pim_fact_lines.specs.declared.line.What.TheVariants as whats
use Rattle.pim_fact_lines.specs.declared.line.Line.{Line}
use Rattle.pim_fact_lines.specs.declared.line.Line.TheVariants as lines
use Rattle.pim_world.specs.declared.world.TheConstants.{MAX_THREADS}
use Rattle.pim_world.specs.Worlds.{World, awaits, blocked_at, is_idle, owns, is_recursive, is_on}

-- it is declared, and this holds of its place
abbrev pub declared : Option ℕ → (ℕ → Bool) → Bool
declared place holds = option_map_or holds place false

-- m is free, or is a recursive one that t owns
abbrev pub may_lock : World → ℕ → ℕ → Bool
may_lock w t m = is_none (owner_of w.state m) || owns w t m && is_recursive w m

-- m is a PROTECT mutex
abbrev pub has_ceiling : World → ℕ → Bool
has_ceiling w m = is_some (ceiling (protocol_of w.state m))

-- the thread that ended the wait of t, if one is named, is declared, and isn't t
abbrev pub may_end : World → ℕ → Ended → Bool
may_end w t ends.Unknown = true
may_end w t (ends.By u) = declared (w.thread u) (λ u. not (u == t))
may_end w t ends.TimedOut = true
may_end w t ends.Failed = true

-- t is blocked at x
abbrev pub is_blocked_at : World → ℕ → ℕ → Bool
is_blocked_at w t x = option_map_or (λ y. y == x) (blocked_at w t) false

-- this can happen to t
abbrev pub may_happen : World → ℕ → What → Bool
may_happen w t (whats.Granted m) =
    declared (w.mutex m) (λ m. (is_idle w t || awaits w t m) && may_lock w t m)
may_happen w t (whats.Took m) = declared (w.mutex m) (λ m. is_idle w t && may_lock w t m)
may_happen w t (whats.Waits m) =
    declared (w.mutex m) (λ m. is_idle w t && not (owns w t m && is_recursive w m))
may_happen w t (whats.GaveUp m) = declared (w.mutex m) (λ m. awaits w t m)
may_happen w t (whats.Released m) = declared (w.mutex m) (λ m. is_idle w t && owns w t m)
may_happen w t (whats.Priority level) = true
may_happen w t (whats.Ceiling m level) = declared (w.mutex m) (λ m. has_ceiling w m)
may_happen w t (whats.Blocks x) = w.object x && is_idle w t
may_happen w t (whats.Resumes x ended) = w.object x && is_blocked_at w t x && may_end w t ended
may_happen w t (whats.Runs level) = true
may_happen w t (whats.On cpu) = not (is_on w.kernel t) && is_none (w.kernel.on cpu)
may_happen w t whats.OffReady = true
may_happen w t whats.OffAsleep = true

-- the line may follow those so far, if none of these is the end
abbrev pub may_be_next : World → Line → Bool
may_be_next w (lines.Thread t level) = is_none (w.thread t) && nat_lt (length w.threads) MAX_THREADS
may_be_next w (lines.Mutex m is_recursive protocol) = is_none (w.mutex m)
may_be_next w (lines.Object x) = not (w.object x)
may_be_next w lines.Unseen = true
may_be_next w (lines.Fact time t what) = declared (w.thread t) (λ t. may_happen w t what)
may_be_next w (lines.Lost time) = true
may_be_next w (lines.End time) = true

-- the line may follow those so far
abbrev pub may_follow : World → Line → Bool
may_follow w line = not w.has_ended && may_be_next w line
