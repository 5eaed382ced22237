-- For how long sections use a CPU.
use Rattle.std.proofs.Common.{◌≡◌, ◌≤◌, ℕ, zero, suc, ◌+◌, max, Bool, true, false, cond, not, ◌&&◌}
use Rattle.std.proofs.Common.{List, [], ◌∷◌, Option, Some, None, is_some, unwrap_or, slice_get, set}
use Rattle.std.proofs.Common.{replicate, length, refl, ◌∙◌, ap, arith, if◌then◌else◌}
use Rattle.std.specs.List.{fold, AllByRecursion}
use Rattle.std.specs.Option.{option_map_or}
use Rattle.pim_base.specs.Lists.{nth, put}
use Rattle.pim_base.specs.State.{mutex_numbers, with_wait, with_ceiling}
use Rattle.pim_fact_lines.specs.declared.line.Line.{Line}
use Rattle.pim_fact_lines.specs.declared.line.Line.TheVariants as lines
use Rattle.pim_fact_lines.specs.declared.line.What.{What}
use Rattle.pim_fact_lines.specs.declared.line.What.TheVariants as whats
use Rattle.pim_waits.specs.Model.{wait_for}
use Rattle.pim_world.specs.Worlds.{World, no_world}
use Rattle.pim_world.specs.After.{after, after_what, at, at_time, locked, unlocked, with_state}
use Rattle.pim_world.proofs.Unknown.{nth-append_none}
use Rattle.pim_rows.specs.Moments.{Moment, now, number, stretch, first_moments, followed_by, began}
use Rattle.pim_world.specs.Standing.{Key, is_off, off_of, mutex_number}
use Rattle.pim_rows.specs.Tables.{Table, same_key, precedes, change}
use Rattle.pim_rows.specs.Begun.{is_owned, off_time, Grant, grant}
use Rattle.pim_rows.specs.Found.{Section, Sections, section, sections, with_section, put_section}
use Rattle.pim_rows.specs.Found.{end_section, lasting_section, all_sections, mutex_of}
use Rattle.pim_rows.specs.Rows.{moments_of}
use Rattle.pim_rows.specs.SectionTimes.{UsedLaw, WithoutOffLaw, leaves_cpu, is_off_line}
use Rattle.pim_rows.proofs.Frames.{at_kept}

-- ---- what holds of the times of each section

module _ (R : ℕ → ℕ → Type 0) (larger : (a b c d : ℕ) → R a b → R c d → R (max a c) (max b d))
    (Z : List Moment → Type 0) (before : (m : Moment) (ms : List Moment) → Z (m ∷ ms) → Z ms)
    (each : (g : Grant) (ms : List Moment)
    → Z ms → R (section g ms).used (section g ms).lasted) where
  abbrev IsRow : Key × Sections → Type 0
  IsRow row = R row.1.used row.1.longest

  changed_rows : (k : Key) (s : Section) → R s.used s.lasted → (rows : Table Sections) →
      AllByRecursion IsRow rows → AllByRecursion IsRow (change k (with_section s) rows)
  changed_rows k s one [] all = (one, tt)
  changed_rows k s one (row ∷ rows) all =
      go (same_key row.0 k) (precedes k row.0) (changed_rows k s one rows all.1)
    where
      go :
          (same first : Bool)
          → AllByRecursion IsRow (change k (with_section s) rows)
          → AllByRecursion IsRow
          (cond same ((k, with_section s (Some row.1)) ∷ rows)
          (cond first
          ((k, with_section s None) ∷ row ∷ rows) (row ∷ change k (with_section s) rows)))
      go true first rest = (larger row.1.used row.1.longest s.used s.lasted all.0 one, all.1)
      go false true rest = (one, all)
      go false false rest = (all.0, rest)

  put_rows : (x : ℕ) (start ms : List Moment) (rows : Table Sections) → Z ms →
      AllByRecursion IsRow rows → AllByRecursion IsRow (put_section x start ms rows)
  put_rows x start ms rows z all =
      let g = grant x start in changed_rows
      (g.thread, mutex_number (now ms) x, g.level) (section g ms) (each g ms z) rows all

  put_rows_if : (b : Bool) (x : ℕ) (start ms : List Moment) (rows : Table Sections) → Z ms →
      AllByRecursion IsRow rows → AllByRecursion IsRow (cond b (put_section x start ms rows) rows)
  put_rows_if true x start ms rows z all = put_rows x start ms rows z all
  put_rows_if false x start ms rows z all = all

  ended_rows : (ms : List Moment) → Z ms → AllByRecursion IsRow (sections ms)
  ended_rows [] z = tt
  ended_rows (m ∷ ms) z = go (mutex_of (now ms) m.line) (ended_rows ms (before m ms z))
    where
      go :
          (o : Option ℕ)
          → AllByRecursion IsRow (sections ms)
          → AllByRecursion IsRow
          (option_map_or (end_section (m ∷ ms) ms (sections ms)) o (sections ms))
      go None rest = rest
      go (Some x) rest =
          put_rows_if (is_owned x (now ms) && not (is_owned x m.world)) x
          (began (is_owned x) ms) (m ∷ ms) (sections ms) z rest

  lasting_rows : (ms : List Moment) → Z ms → (xs : List ℕ) (rows : Table Sections) →
      AllByRecursion IsRow rows → AllByRecursion IsRow (fold (lasting_section ms) rows xs)
  lasting_rows ms z [] rows all = all
  lasting_rows ms z (x ∷ xs) rows all =
      lasting_rows ms z xs (lasting_section ms rows x)
      (put_rows_if (is_owned x (now ms)) x (began (is_owned x) ms) ms rows z all)

  all_rows : (ms : List Moment) → Z ms → AllByRecursion IsRow (all_sections ms)
  all_rows ms z = lasting_rows ms z (mutex_numbers (now ms).state) (sections ms) (ended_rows ms z)

pub used_law : UsedLaw
used_law ms =
    all_rows (λ a b. a ≤ b) (λ a b c d one other. omega (arith, one, other)) (λ ms. ℕ) (λ m ms z. z)
    (λ g ms z. omega arith) ms 0

-- ---- texts without an `off`

abbrev NoneOff : World → Type 0
NoneOff w = (t : ℕ) → off_of w.kernel t ≡ None

none_set :
    {A : Type 0} (xs : List (Option A)) (i : ℕ)
    → ((k : ℕ) → unwrap_or (slice_get xs k) None ≡ None)
    →
    (k : ℕ) → unwrap_or (slice_get (set xs i None) k) None ≡ None
none_set [] i none k = none k
none_set (x ∷ xs) zero none zero = refl
none_set (x ∷ xs) zero none (suc k) = none (suc k)
none_set (x ∷ xs) (suc i) none zero = none zero
none_set (x ∷ xs) (suc i) none (suc k) = none_set xs i (λ j. none (suc j)) k

none_put :
    {A : Type 0} (xs : List (Option A)) (t : ℕ)
    → ((k : ℕ) → unwrap_or (nth xs k) None ≡ None)
    →
    (k : ℕ) → unwrap_or (nth (put xs t None) k) None ≡ None
none_put xs zero none k = none k
none_put xs (suc i) none zero = refl
none_put xs (suc i) none (suc k) = none_set xs i (λ j. none (suc j)) k

none_replicate :
    {A : Type 0} (n i : ℕ)
    → unwrap_or (slice_get (replicate {A = Option A} n None) i) None ≡ None
none_replicate zero i = refl
none_replicate (suc n) zero = refl
none_replicate (suc n) (suc i) = none_replicate n i

none_off_what :
    (what : What) (t : ℕ) (w : World)
    → leaves_cpu what ≡ false
    → NoneOff w
    → NoneOff (after_what what t w)
none_off_what (whats.Granted m) t w stays none u =
    at_kept (λ w. off_of w.kernel u) (w.mutex m)
    (λ n w. with_state w (locked (with_wait w.state t None) t n)) w (λ n. refl) ∙ none u
none_off_what (whats.Took m) t w stays none u =
    at_kept (λ w. off_of w.kernel u)
    (w.mutex m) (λ n w. with_state w (locked w.state t n)) w (λ n. refl) ∙ none u
none_off_what (whats.Waits m) t w stays none u =
    at_kept (λ w. off_of w.kernel u) (w.mutex m)
    (λ n w. with_state w (with_wait w.state t (Some (wait_for n)))) w (λ n. refl) ∙ none u
none_off_what (whats.GaveUp m) t w stays none u = none u
none_off_what (whats.Released m) t w stays none u =
    at_kept (λ w. off_of w.kernel u)
    (w.mutex m) (λ n w. with_state w (unlocked w.state n)) w (λ n. refl) ∙ none u
none_off_what (whats.Priority level) t w stays none u = none u
none_off_what (whats.Ceiling m level) t w stays none u =
    at_kept (λ w. off_of w.kernel u)
    (w.mutex m) (λ n w. with_state w (with_ceiling w.state n level)) w (λ n. refl) ∙ none u
none_off_what (whats.Blocks x) t w stays none u = none u
none_off_what (whats.Resumes x ended) t w stays none u = none u
none_off_what (whats.Runs level) t w stays none u = none u
none_off_what (whats.On cpu) t w stays none u = none_put w.kernel.off t none u
none_off_what whats.OffReady t w stays none u = absurd (let e : true ≡ false = stays in cc)
none_off_what whats.OffAsleep t w stays none u = absurd (let e : true ≡ false = stays in cc)

none_off_after : (w : World) (l : Line) → is_off_line l ≡ false → NoneOff w → NoneOff (after w l)
none_off_after w (lines.Thread t level) stays none u = nth-append_none w.kernel.off u ∙ none u
none_off_after w (lines.Mutex m is_recursive protocol) stays none u = none u
none_off_after w (lines.Object x) stays none u = none u
none_off_after w lines.Unseen stays none u = none u
none_off_after w (lines.Fact time t what) stays none u = go (w.thread t)
  where
    go : (place : Option ℕ) → off_of (at place (after_what what) (at_time time w)).kernel u ≡ None
    go None = none u
    go (Some p) = none_off_what what p (at_time time w) stays none u
none_off_after w (lines.Lost time) stays none zero = refl
none_off_after w (lines.Lost time) stays none (suc i) = none_replicate (length w.kernel.off) i
none_off_after w (lines.End time) stays none u = none u

abbrev NeverOff : List Moment → Type 0
NeverOff ms = (t : ℕ) → off_time t ms ≡ 0

never_off_more :
    (m : Moment) (ms : List Moment)
    → NoneOff (now ms)
    → NeverOff ms
    → NeverOff (m ∷ ms)
never_off_more m ms none never t =
    let here : (if is_off t (now ms) then stretch m ms else 0) ≡ 0 =
    ap (λ o. if is_some o then stretch m ms else 0) (none t) in
    omega (arith, here, never t)

never_off :
    (ls : List Line) (ms : List Moment)
    → AllByRecursion (λ l. is_off_line l ≡ false) ls
    → NoneOff (now ms)
    →
    NeverOff ms → NeverOff (fold followed_by ms ls)
never_off [] ms stay none never = never
never_off (l ∷ ls) ms stay none never =
    never_off ls (followed_by ms l) stay.1 (none_off_after (now ms) l stay.0 none)
    (never_off_more
    (record { number = number ms + 1; line = l; world = after (now ms) l }) ms none never)

none_off_first : NoneOff no_world
none_off_first zero = refl
none_off_first (suc i) = refl

pub without_off_law : WithoutOffLaw
without_off_law ls stay =
    all_rows (λ a b. a ≡ b) (λ a b c d one other. omega (arith, one, other)) NeverOff
    (λ m ms z t. omega (arith, z t)) (λ g ms z. omega (arith, z g.owner)) (moments_of ls)
    (never_off ls first_moments stay none_off_first (never_off_more (record {
      number = 1;
      line = lines.Unseen;
      world = no_world;
    }) [] none_off_first (λ t. refl)))
