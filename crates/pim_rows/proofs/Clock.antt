-- The clock never goes back.
use Rattle.std.proofs.Common.{◌≡◌, ℕ, ◌≤◌, max, refl, arith, Option, Some, None, List, [], ◌∷◌}
use Rattle.std.specs.List.{fold}
use Rattle.std.specs.Option.{option_map_or}
use Rattle.pim_fact_lines.specs.declared.line.Line.{Line}
use Rattle.pim_fact_lines.specs.declared.line.Line.TheVariants as lines
use Rattle.pim_fact_lines.specs.declared.line.What.{What}
use Rattle.pim_fact_lines.specs.declared.line.What.TheVariants as whats
use Rattle.pim_base.specs.State.{State}
use Rattle.pim_world.specs.Worlds.{World}
use Rattle.pim_world.specs.After.{after, after_what, at, at_time, with_state}
use Rattle.pim_rows.specs.Moments.{Moment, now, first_moments, followed_by, time}
use Rattle.pim_rows.specs.Laws.{IsInOrder, OrderLaw}

clock-at : (place : Option ℕ) (change : ℕ → World → World) (w : World) →
    ((n : ℕ) → (change n w).clock ≡ w.clock) → (at place change w).clock ≡ w.clock
clock-at None change w same = refl
clock-at (Some n) change w same = same n

clock-with_state : (place : Option ℕ) (changed : ℕ → State) (w : World) →
    (option_map_or (λ n. with_state w (changed n)) place w).clock ≡ w.clock
clock-with_state None changed w = refl
clock-with_state (Some n) changed w = refl

-- what happens takes no time of its own
clock-after_what : (what : What) (t : ℕ) (w : World) → (after_what what t w).clock ≡ w.clock
clock-after_what (whats.Granted m) t w = clock-with_state (w.mutex m) _ w
clock-after_what (whats.Took m) t w = clock-with_state (w.mutex m) _ w
clock-after_what (whats.Waits m) t w = clock-with_state (w.mutex m) _ w
clock-after_what (whats.GaveUp m) t w = refl
clock-after_what (whats.Released m) t w = clock-with_state (w.mutex m) _ w
clock-after_what (whats.Priority level) t w = refl
clock-after_what (whats.Ceiling m level) t w = clock-with_state (w.mutex m) _ w
clock-after_what (whats.Blocks x) t w = refl
clock-after_what (whats.Resumes x ended) t w = refl
clock-after_what (whats.Runs level) t w = refl
clock-after_what (whats.On cpu) t w = refl
clock-after_what whats.OffReady t w = refl
clock-after_what whats.OffAsleep t w = refl

pub clock-le-after : (w : World) (line : Line) → w.clock ≤ (after w line).clock
clock-le-after w (lines.Thread t level) = omega arith
clock-le-after w (lines.Mutex m is_recursive protocol) = omega arith
clock-le-after w (lines.Object x) = omega arith
clock-le-after w lines.Unseen = omega arith
clock-le-after w (lines.Fact time t what) =
    let same : (at (w.thread t) (after_what what) (at_time time w)).clock ≡ max w.clock time =
    clock-at (w.thread t)
    (after_what what) (at_time time w) (λ n. clock-after_what what n (at_time time w)) in
    omega arith
clock-le-after w (lines.Lost time) = omega arith
clock-le-after w (lines.End time) = omega arith

followed-in_order :
    (ls : List Line) (ms : List Moment)
    → IsInOrder ms
    → IsInOrder (fold followed_by ms ls)
followed-in_order [] ms ok = ok
followed-in_order (line ∷ ls) ms ok =
    followed-in_order ls (followed_by ms line) (clock-le-after (now ms) line, ok)

pub order_law : OrderLaw
order_law ls = followed-in_order ls first_moments (omega arith, tt)
