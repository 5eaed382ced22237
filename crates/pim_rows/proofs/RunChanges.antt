-- The levels of the threads before a line and after it.
use Rattle.std.proofs.Common.{◌≡◌, ℕ, zero, suc, ◌<◌, ◌≤◌, ◌+◌, ◌⊎◌, true, false, List, [], ◌∷◌}
use Rattle.std.proofs.Common.{◌++◌, length, length-append, map, take, get_or, Option, Some, None}
use Rattle.std.proofs.Common.{unwrap_or, option_and_then, slice_get, replicate, subst, refl, sym}
use Rattle.std.proofs.Common.{◌∙◌, ap, inl, inr, arith, if◌then◌else◌}
use Rattle.std.specs.Prelude.{◌==◌}
use Rattle.std.proofs.lemmas.Bool.{cases_lt}
use Rattle.std.proofs.lemmas.List.{take_more, length-replicate, map-append}
use Rattle.std.proofs.lemmas.Option.{slice_get_past}
use Rattle.pim_base.specs.Lists.{contains, nth}
use Rattle.pim_base.proofs.Places.{length-put}
use Rattle.pim_fact_lines.specs.declared.line.Line.{Line}
use Rattle.pim_fact_lines.specs.declared.line.Line.TheVariants as lines
use Rattle.pim_fact_lines.specs.declared.line.What.{What}
use Rattle.pim_fact_lines.specs.declared.line.What.TheVariants as whats
use Rattle.pim_waits.specs.Waiting.{gets}
use Rattle.pim_world.specs.Worlds.{World, no_world}
use Rattle.pim_world.specs.After.{after, after_what, at_time}
use Rattle.pim_base.specs.State.{with_wait}
use Rattle.pim_rows.specs.declared.runs.RunChange.{RunChange}
use Rattle.pim_rows.specs.declared.runs.RunLevels.{RunLevels}
use Rattle.pim_world.specs.Standing.{thread_number, runs_of}
use Rattle.pim_rows.specs.Begun.{run_apart}
use Rattle.pim_rows.specs.Rows.{by_number}
use Rattle.pim_rows.specs.Runs.{AreChanges, IsEven, runs_now, is_runs, levels_of, change_of}
use Rattle.pim_world.proofs.Unknown.{nth-append_none}
use Rattle.pim_rows.proofs.Frames.{by_grant, by_take, by_wait, by_release, by_ceiling, at_kept}
use Rattle.pim_rows.proofs.Frames.{fact_kept, base-locked, base-unlocked}
use Rattle.pim_rows.proofs.InOrder.{upto_has}
use Rattle.pim_rows.proofs.Running.{filter-itself, no_changes}

-- ---- in the code

-- a loop has appended one item more
more_mapped : {A B : Type 0} (f : A → B) (xs : List A) (i : ℕ) (x : A) (y : B) (old new : List B)
    → i < length xs → x ≡ get_or xs i x → y ≡ f x → old ≡ map f (take i xs) → new ≡ old ++ y ∷ []
    → new ≡ map f (take (i + 1) xs)
more_mapped {A = A} {B = B} f xs i x y old new h is of before added =
    added
    ∙ ap (λ (ys : List B). ys ++ y ∷ []) before
    ∙ ap (λ (y : B). map f (take i xs) ++ y ∷ []) of
    ∙ sym (map-append f (take i xs) (x ∷ []))
    ∙ ap (λ (x : A). map f (take i xs ++ x ∷ [])) is
    ∙ ap (map f) (sym (take_more xs i x h))

pub one_more_levels : (w : World)
    (ts : List ℕ) (i t : ℕ) (apart : Option (ℕ × ℕ)) (old new : List RunLevels)
    → i < length ts
    → t ≡ get_or ts i t
    → apart ≡ run_apart w t
    → old ≡ map (levels_of w) (take i ts)
    → new ≡ old ++ record { thread = t; levels = apart } ∷ []
    → new ≡ map (levels_of w) (take (i + 1) ts)
one_more_levels w ts i t apart old new h is of before added =
    more_mapped (levels_of w) ts i t (record { thread = t; levels = apart }) old new h is
    (ap (λ (apart : Option (ℕ × ℕ)). record { thread = t; levels = apart }) of) before added

pub one_more_change : (w next : World)
    (ts : List ℕ) (i t : ℕ) (before now : Option (ℕ × ℕ)) (old new : List RunChange)
    → i < length ts → t ≡ get_or ts i t → before ≡ run_apart w t → now ≡ run_apart next t
    → old ≡ map (change_of w next) (take i ts)
    → new ≡ old ++ record { thread = t; before = before; now = now } ∷ []
    → new ≡ map (change_of w next) (take (i + 1) ts)
one_more_change w next ts i t before now old new h is of_before of_now so_far added =
    more_mapped
    (change_of w next) ts i t (record { thread = t; before = before; now = now }) old new h is
    (ap (λ (before : Option (ℕ × ℕ)). record { thread = t; before = before; now = now }) of_before
    ∙ ap
    (λ (now : Option (ℕ × ℕ)). record { thread = t; before = run_apart w t; now = now }) of_now)
    so_far added

-- ---- how many threads there are

runs_len-after_what :
    (what : What) (t : ℕ) (w : World)
    → length (after_what what t w).kernel.runs ≡ length w.kernel.runs
runs_len-after_what (whats.Granted m) t w =
    at_kept (λ w. length w.kernel.runs) (w.mutex m) (by_grant t) w (λ n. refl)
runs_len-after_what (whats.Took m) t w =
    at_kept (λ w. length w.kernel.runs) (w.mutex m) (by_take t) w (λ n. refl)
runs_len-after_what (whats.Waits m) t w =
    at_kept (λ w. length w.kernel.runs) (w.mutex m) (by_wait t) w (λ n. refl)
runs_len-after_what (whats.GaveUp m) t w = refl
runs_len-after_what (whats.Released m) t w =
    at_kept (λ w. length w.kernel.runs) (w.mutex m) by_release w (λ n. refl)
runs_len-after_what (whats.Priority level) t w = refl
runs_len-after_what (whats.Ceiling m level) t w =
    at_kept (λ w. length w.kernel.runs) (w.mutex m) (by_ceiling level) w (λ n. refl)
runs_len-after_what (whats.Blocks x) t w = refl
runs_len-after_what (whats.Resumes x ended) t w = refl
runs_len-after_what (whats.Runs level) t w = length-put w.kernel.runs t (Some level)
runs_len-after_what (whats.On cpu) t w = refl
runs_len-after_what whats.OffReady t w = refl
runs_len-after_what whats.OffAsleep t w = refl

base_len-after_what :
    (what : What) (t : ℕ) (w : World)
    → length (after_what what t w).state.base ≡ length w.state.base
base_len-after_what (whats.Granted m) t w =
    at_kept (λ w. length w.state.base)
    (w.mutex m) (by_grant t) w (λ n. ap length (base-locked (with_wait w.state t None) t n))
base_len-after_what (whats.Took m) t w =
    at_kept (λ w. length w.state.base)
    (w.mutex m) (by_take t) w (λ n. ap length (base-locked w.state t n))
base_len-after_what (whats.Waits m) t w =
    at_kept (λ w. length w.state.base) (w.mutex m) (by_wait t) w (λ n. refl)
base_len-after_what (whats.GaveUp m) t w = refl
base_len-after_what (whats.Released m) t w =
    at_kept (λ w. length w.state.base)
    (w.mutex m) by_release w (λ n. ap length (base-unlocked w.state n))
base_len-after_what (whats.Priority level) t w = length-put w.state.base t level
base_len-after_what (whats.Ceiling m level) t w =
    at_kept (λ w. length w.state.base) (w.mutex m) (by_ceiling level) w (λ n. refl)
base_len-after_what (whats.Blocks x) t w = refl
base_len-after_what (whats.Resumes x ended) t w = refl
base_len-after_what (whats.Runs level) t w = refl
base_len-after_what (whats.On cpu) t w = refl
base_len-after_what whats.OffReady t w = refl
base_len-after_what whats.OffAsleep t w = refl

runs_len-fact :
    (time t : ℕ) (what : What) (w : World)
    → length (after w (lines.Fact time t what)).kernel.runs ≡ length w.kernel.runs
runs_len-fact time t what w =
    fact_kept (λ w. length w.kernel.runs)
    (w.thread t) what time w (λ p e. runs_len-after_what what p (at_time time w)) refl

pub base_len-fact :
    (time t : ℕ) (what : What) (w : World)
    → length (after w (lines.Fact time t what)).state.base ≡ length w.state.base
base_len-fact time t what w =
    fact_kept (λ w. length w.state.base)
    (w.thread t) what time w (λ p e. base_len-after_what what p (at_time time w)) refl

pub IsEven-first : IsEven no_world
IsEven-first = refl

pub IsEven-after : (w : World) (l : Line) → IsEven w → IsEven (after w l)
IsEven-after w (lines.Thread t level) even =
    length-append w.kernel.runs (None ∷ [])
    ∙ ap (λ n. n + 1) even ∙ sym (length-append w.state.base (level ∷ []))
IsEven-after w (lines.Mutex m is_recursive protocol) even = even
IsEven-after w (lines.Object x) even = even
IsEven-after w lines.Unseen even = even
IsEven-after w (lines.Fact time t what) even =
    runs_len-fact time t what w ∙ even ∙ sym (base_len-fact time t what w)
IsEven-after w (lines.Lost time) even = length-replicate (length w.kernel.runs) None ∙ even
IsEven-after w (lines.End time) even = even

-- ---- places without a thread

-- no item has this number
abbrev IsNone : ℕ → ℕ → Type 0
IsNone n t = (0 < t) × (t ≤ n) → ⊥

nothing_at :
    (xs : List (Option ℕ)) (t : ℕ)
    → IsNone (length xs) t
    → unwrap_or (nth xs t) None ≡ None
nothing_at xs zero none = refl
nothing_at xs (suc i) none =
    ap (λ x. unwrap_or x None) (slice_get_past xs i (go (cases_lt i (length xs))))
  where
    go : (i < length xs) ⊎ (length xs ≤ i) → length xs ≤ i
    go (inl less) = absurd (none (omega arith, omega arith))
    go (inr past) = past

nothing_after :
    (w : World) (l : Line) (t : ℕ)
    → IsNone (length w.kernel.runs) t
    → runs_of (after w l) t ≡ None
nothing_after w (lines.Thread u level) t none =
    nth-append_none w.kernel.runs t ∙ nothing_at w.kernel.runs t none
nothing_after w (lines.Mutex m is_recursive protocol) t none = nothing_at w.kernel.runs t none
nothing_after w (lines.Object x) t none = nothing_at w.kernel.runs t none
nothing_after w lines.Unseen t none = nothing_at w.kernel.runs t none
nothing_after w (lines.Fact time u what) t none =
    nothing_at (after w (lines.Fact time u what)).kernel.runs t
    (λ there. none (there.0, omega (arith, there.1, runs_len-fact time u what w)))
nothing_after w (lines.Lost time) t none =
    nothing_at (after w (lines.Lost time)).kernel.runs t
    (λ there. none (
      there.0,
      omega (arith, there.1, length-replicate {A = Option ℕ} (length w.kernel.runs) None),
    ))
nothing_after w (lines.End time) t none = nothing_at w.kernel.runs t none

-- without a known level there are no two
run_apart-none : (w : World) (t : ℕ) → runs_of w t ≡ None → run_apart w t ≡ None
run_apart-none w t none =
    ap (option_and_then
    (λ level. if level == gets w.state t then None else Some (level, gets w.state t))) none

-- the levels of a thread that isn't declared don't change
pub undeclared_same :
    (w : World) (l : Line)
    → IsEven w
    → (t : ℕ)
    → contains (by_number w) t ≡ false
    → run_apart (after w l) t ≡ run_apart w t
undeclared_same w l even t other =
    run_apart-none (after w l) t (nothing_after w l t none)
    ∙ sym (run_apart-none w t (nothing_at w.kernel.runs t none))
  where
    none : IsNone (length w.kernel.runs) t
    none there =
        let has = upto_has
        (thread_number w) (length w.state.base) t there.0 (omega (arith, even, there.1)) in
        absurd (let no : true ≡ false = sym has ∙ other in cc)

-- the changes of all threads
pub all_changes : (w : World) (l : Line) (changes : List RunChange) → IsEven w
    → changes ≡ map (change_of w (after w l)) (by_number w)
    → AreChanges w (after w l) (by_number w) changes
all_changes w l changes even values =
    record {
      values = values;
      others = undeclared_same w l even;
      order = filter-itself (by_number w);
    }

-- ---- no thread has a known level

abbrev NoneKnown : World → Type 0
NoneKnown w = (t : ℕ) → runs_of w t ≡ None

pub none_known-after_what :
    (what : What) (t : ℕ) (w : World)
    → runs_now what ≡ false
    → (u : ℕ)
    → runs_of (after_what what t w) u ≡ runs_of w u
none_known-after_what (whats.Granted m) t w other u =
    at_kept (λ w. runs_of w u) (w.mutex m) (by_grant t) w (λ n. refl)
none_known-after_what (whats.Took m) t w other u =
    at_kept (λ w. runs_of w u) (w.mutex m) (by_take t) w (λ n. refl)
none_known-after_what (whats.Waits m) t w other u =
    at_kept (λ w. runs_of w u) (w.mutex m) (by_wait t) w (λ n. refl)
none_known-after_what (whats.GaveUp m) t w other u = refl
none_known-after_what (whats.Released m) t w other u =
    at_kept (λ w. runs_of w u) (w.mutex m) by_release w (λ n. refl)
none_known-after_what (whats.Priority level) t w other u = refl
none_known-after_what (whats.Ceiling m level) t w other u =
    at_kept (λ w. runs_of w u) (w.mutex m) (by_ceiling level) w (λ n. refl)
none_known-after_what (whats.Blocks x) t w other u = refl
none_known-after_what (whats.Resumes x ended) t w other u = refl
none_known-after_what (whats.Runs level) t w other u = absurd (let no : true ≡ false = other in cc)
none_known-after_what (whats.On cpu) t w other u = refl
none_known-after_what whats.OffReady t w other u = refl
none_known-after_what whats.OffAsleep t w other u = refl

forgotten_at : (n i : ℕ) → unwrap_or (slice_get (replicate {A = Option ℕ} n None) i) None ≡ None
forgotten_at zero i = refl
forgotten_at (suc n) zero = refl
forgotten_at (suc n) (suc i) = forgotten_at n i

none_known_after : (w : World) (l : Line) → is_runs l ≡ false → NoneKnown w → NoneKnown (after w l)
none_known_after w (lines.Thread u level) other none t = nth-append_none w.kernel.runs t ∙ none t
none_known_after w (lines.Mutex m is_recursive protocol) other none t = none t
none_known_after w (lines.Object x) other none t = none t
none_known_after w lines.Unseen other none t = none t
none_known_after w (lines.Fact time u what) other none t =
    fact_kept (λ w. runs_of w t) (w.thread u) what time w
    (λ p e. none_known-after_what what p (at_time time w) other t) refl ∙ none t
none_known_after w (lines.Lost time) other none zero = refl
none_known_after w (lines.Lost time) other none (suc i) = forgotten_at (length w.kernel.runs) i
none_known_after w (lines.End time) other none t = none t

pub none_before :
    (w : World) (l : Line)
    → is_runs l ≡ false
    → NoneKnown w
    → (cs : List RunChange)
    → cs ≡ []
    → AreChanges w (after w l) [] cs
none_before w l other none cs changes =
    subst (AreChanges w (after w l) []) (sym changes)
    (no_changes w (after w l)
    (λ t. run_apart-none (after w l) t (none_known_after w l other none t)
    ∙ sym (run_apart-none w t (none t))))
