-- What holds of a thread or a mutex after a line: docs/ROWS.md, 'Spans'.
use Rattle.std.specs.Prelude.{ℕ, List, Option}
use Rattle.std.specs.Option.{option_map, option_map_or}
use Rattle.pim_base.specs.Lists.{nth}
use Rattle.pim_base.specs.State.{wait_of, owner_of}
use Rattle.pim_base.specs.declared.steps.Wait.{Wait}
use Rattle.pim_waits.specs.Waiting.{gets}
use Rattle.pim_world.specs.Worlds.{World}
use Rattle.pim_world.specs.Standing.{Key, standing, mutex_number}
use Rattle.pim_rows.specs.Moments.{Moment, now}
use Rattle.pim_spans.specs.declared.kind.Kind.{Kind}
use Rattle.pim_spans.specs.declared.kind.Kind.TheVariants as kinds
use Rattle.pim_spans.specs.Spans.{Holding, Start, start}

-- what t gets, and its level
abbrev pub level_of : ℕ → World → Option Key
level_of t w = option_map (λ level. (gets w.state t, level, 0)) (nth w.state.base t)

-- the place of the owner of m
abbrev pub owned_by : ℕ → World → Option Key
owned_by m w = option_map (λ t. (t, 0, 0)) (owner_of w.state m)

-- the mutex that t awaits
abbrev pub awaited_by : ℕ → World → Option Key
awaited_by t w = option_map (λ (x : Wait). (mutex_number w x.mutex, 0, 0)) (wait_of w.state t)

-- the line of the wait of t
abbrev pub wait_line : ℕ → List Moment → ℕ
wait_line t ms = option_map_or (λ (s : Start). s.line) (start (λ ms. awaited_by t (now ms)) ms) 0

-- the line of a wait, and the first two of these numbers
abbrev pub of_wait : ℕ → Option Key → Option Key
of_wait line k = option_map (λ (k : Key). (line, k.0, k.1)) k

-- what holds of the thread at a place, or of the mutex there. By what a waiting thread is inverted
-- or stalled, its standing says.
abbrev pub holding : Kind → ℕ → Holding
holding kinds.Gets t = λ ms. level_of t (now ms)
holding kinds.Owns m = λ ms. owned_by m (now ms)
holding kinds.Waits t = λ ms. awaited_by t (now ms)
holding kinds.Inverted t = λ ms. of_wait (wait_line t ms) (standing (now ms) t).inverted
holding kinds.Stalled t = λ ms. of_wait (wait_line t ms) (standing (now ms) t).stalled
