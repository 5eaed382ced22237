-- What a line leaves of what holds of threads and mutexes.
use Rattle.std.proofs.Common.{◌≡◌, ◌≢◌, ◌≤◌, ◌<◌, ◌⊎◌, ◌||◌, ◌∙◌, ℕ, zero, suc, Bool, true, false}
use Rattle.std.proofs.Common.{List, [], ◌∷◌, length, length-append, Option, Some, None, is_some, unwrap_or, refl, sym}
use Rattle.std.proofs.Common.{ap, subst, inl, inr, arith, not, nat_lt, ◌&&◌, if◌then◌else◌}
use Rattle.std.specs.Option.{option_and_then, option_map, option_map_or}
use Rattle.std.specs.Prelude.{◌==◌}
use Rattle.std.proofs.lemmas.Bool.{cases_lt, eq-eqb}
use Rattle.std.proofs.lemmas.Option.{slice_get_past, same_Some}
use Rattle.pim_base.specs.Lists.{nth, contains}
use Rattle.pim_base.specs.State.{State, IsTask, wait_of, owner_of}
use Rattle.pim_base.specs.Chains.{chain, blocker}
use Rattle.pim_base.specs.declared.steps.Wait.{Wait}
use Rattle.pim_fact_lines.specs.declared.line.Line.{Line}
use Rattle.pim_fact_lines.specs.declared.line.Line.TheVariants as lines
use Rattle.pim_fact_lines.specs.declared.line.What.{What}
use Rattle.pim_fact_lines.specs.declared.line.What.TheVariants as whats
use Rattle.pim_waits.specs.Touched.{IsUntouched, Touches}
use Rattle.pim_waits.specs.Waiting.{gets, runner, other_end, last_item}
use Rattle.pim_waits.proofs.Lists.{contains-first, contains-later, nth_none}
use Rattle.pim_world.specs.Worlds.{World, no_kernel}
use Rattle.pim_world.specs.After.{after, after_what, at_time, with_kernel}
use Rattle.pim_world.specs.Touching.{declares}
use Rattle.pim_world.specs.Standing.{standing, in_place_of, mutex_number, meanwhile_key, meanwhile_of, run_level}
use Rattle.pim_rows.specs.Affected.{AreWaits, affects_all, is_of_object}
use Rattle.pim_rows.specs.Found.{actor, mutex_of}
use Rattle.pim_rows.specs.Moments.{Moment, now}
use Rattle.pim_rows.proofs.Frames.{by_grant, by_take, by_wait, by_release, by_ceiling, at_kept}
use Rattle.pim_rows.proofs.Frames.{fact_kept, wait-after, owner-after}
use Rattle.pim_rows.proofs.RunChanges.{base_len-fact}
use Rattle.pim_rows.proofs.SameStanding.{standing_same, way_first, AreWaits-after}
use Rattle.pim_spans.specs.declared.kind.Kind.TheVariants as kinds
use Rattle.pim_spans.specs.Spans.{Start}
use Rattle.pim_spans.specs.Holding.{holding, level_of, awaited_by, wait_line, of_wait}
use Rattle.pim_spans.specs.Following.{IsUnmoved, AreUnmovedBy, moment_of, with_first}
use Rattle.pim_spans.proofs.Kept.{start-same}

-- ---- what a line leaves of the lists

-- the numbers of threads and mutexes, and where threads are blocked
abbrev Lists : Type 0
Lists = List ℕ × List ℕ × List (Option ℕ)

abbrev lists_of : World → Lists
lists_of w = (w.threads, w.mutexes, w.blocked)

lists-after_what :
    (what : What) (t : ℕ) (w : World)
    → is_of_object what ≡ false
    → lists_of (after_what what t w) ≡ lists_of w
lists-after_what (whats.Granted m) t w h = at_kept lists_of (w.mutex m) (by_grant t) w (λ n. refl)
lists-after_what (whats.Took m) t w h = at_kept lists_of (w.mutex m) (by_take t) w (λ n. refl)
lists-after_what (whats.Waits m) t w h = at_kept lists_of (w.mutex m) (by_wait t) w (λ n. refl)
lists-after_what (whats.GaveUp m) t w h = refl
lists-after_what (whats.Released m) t w h = at_kept lists_of (w.mutex m) by_release w (λ n. refl)
lists-after_what (whats.Priority level) t w h = refl
lists-after_what (whats.Ceiling m level) t w h =
    at_kept lists_of (w.mutex m) (by_ceiling level) w (λ n. refl)
lists-after_what (whats.Blocks x) t w h = absurd (let no : true ≡ false = h in cc)
lists-after_what (whats.Resumes x ended) t w h = absurd (let no : true ≡ false = h in cc)
lists-after_what (whats.Runs level) t w h = refl
lists-after_what (whats.On cpu) t w h = refl
lists-after_what whats.OffReady t w h = refl
lists-after_what whats.OffAsleep t w h = refl

-- a line that doesn't affect all leaves these and the number of threads, and declares nothing
record IsLike (w : World) (l : Line) : Type 0 where
  lists : lists_of (after w l) ≡ lists_of w
  count : length (after w l).state.base ≡ length w.state.base
  declared : declares l ≡ false

is_like : (w : World) (l : Line) → affects_all l ≡ false → IsLike w l
is_like w (lines.Thread t level) h = absurd (let no : true ≡ false = h in cc)
is_like w (lines.Mutex m is_recursive protocol) h = absurd (let no : true ≡ false = h in cc)
is_like w (lines.Object x) h = record { lists = refl; count = refl; declared = refl }
is_like w lines.Unseen h = record { lists = refl; count = refl; declared = refl }
is_like w (lines.Fact time t what) h = record {
  lists =
      fact_kept lists_of (w.thread t) what time w
      (λ p e. lists-after_what what p (at_time time w) h) refl;
  count = base_len-fact time t what w;
  declared = refl;
}
is_like w (lines.Lost time) h = record { lists = refl; count = refl; declared = refl }
is_like w (lines.End time) h = record { lists = refl; count = refl; declared = refl }

count_more : (w : World) (l : Line) → length w.state.base ≤ length (after w l).state.base
count_more w (lines.Thread t level) =
    let e = length-append w.state.base (level ∷ []) in omega (arith, e)
count_more w (lines.Mutex m is_recursive protocol) = omega arith
count_more w (lines.Object x) = omega arith
count_more w lines.Unseen = omega arith
count_more w (lines.Fact time t what) = let e = base_len-fact time t what w in omega (arith, e)
count_more w (lines.Lost time) = omega arith
count_more w (lines.End time) = omega arith

-- ---- no thread

nth_past : {X : Type 0} (xs : List X) (t : ℕ) → length xs < t → nth xs t ≡ None
nth_past xs zero h = absurd (omega (arith, h))
nth_past xs (suc i) h = slice_get_past xs i (omega (arith, h))

-- what doesn't wait has no runner
ends_itself : (S : State) (n t : ℕ) → blocker S t ≡ None → option_and_then (other_end S t) (last_item (chain (blocker S) n t)) ≡ None
ends_itself S n t e =
    ap (option_and_then (other_end S t)) (alone n) ∙ itself
  where
    alone : (n : ℕ) → last_item (chain (blocker S) n t) ≡ Some t
    alone zero = refl
    alone (suc n) = ap (λ o. last_item (t ∷ option_map_or (chain (blocker S) n) o [])) e

    itself : other_end S t t ≡ None
    itself = ap (λ b. if b || is_some (blocker S t) then None else Some t) (eq-eqb t t refl)

no_runner : (S : State) (t : ℕ) → wait_of S t ≡ None → runner S t ≡ None
no_runner S t e =
    ends_itself S (length S.base) t (ap (option_and_then (λ (x : Wait). owner_of S x.mutex)) e)

-- nothing holds of what is no thread
pub record HoldsNothing (w : World) (t : ℕ) : Type 0 where
  pub level : level_of t w ≡ None
  pub awaited : awaited_by t w ≡ None
  pub inverted : (standing w t).inverted ≡ None
  pub stalled : (standing w t).stalled ≡ None

pub nothing : (w : World) (t : ℕ) → AreWaits w → length w.state.base < t → HoldsNothing w t
nothing w t are past =
    let wait : wait_of w.state t ≡ None =
    ap (λ o. unwrap_or o None) (nth_past w.state.wait t (omega (arith, are, past))) in
    let none : runner w.state t ≡ None = no_runner w.state t wait in
    record {
      level = ap (option_map (λ level. (gets w.state t, level, 0))) (nth_past w.state.base t past);
      awaited = ap (option_map (λ (x : Wait). (mutex_number w x.mutex, 0, 0))) wait;
      inverted = by_runner none;
      stalled = by_runner_stalled none;
    }
  where
    by_runner : runner w.state t ≡ None → (standing w t).inverted ≡ None
    by_runner e = rw e refl

    by_runner_stalled : runner w.state t ≡ None → (standing w t).stalled ≡ None
    by_runner_stalled e = rw e refl

-- ---- a thread that isn't touched

unplaced : (r : ℕ) → in_place_of no_kernel r ≡ None
unplaced zero = refl
unplaced (suc r) = refl

unrun : (w : World) (t r : ℕ)
    → option_map (meanwhile_key (with_kernel w no_kernel)) (meanwhile_of (with_kernel w no_kernel) t r)
    ≡ None
unrun w t r =
    ap
    (λ o. option_map (meanwhile_key (with_kernel w no_kernel))
    (option_and_then
    (λ u. if not (u == t) && nat_lt (run_level (with_kernel w no_kernel) u) (gets w.state t)
    then Some u else None) o))
    (unplaced r)

base_same :
    (xs ys : List ℕ) (t : ℕ)
    → 1 ≤ t
    → t ≤ length xs
    → length ys ≡ length xs
    → unwrap_or (nth ys t) 0 ≡ unwrap_or (nth xs t) 0
    → nth ys t ≡ nth xs t
base_same xs ys t low high len e = go (nth ys t) (nth xs t) refl refl e
  where
    go : (p q : Option ℕ) → nth ys t ≡ p → nth xs t ≡ q → unwrap_or p 0 ≡ unwrap_or q 0 → p ≡ q
    go None q is _ e = absurd (nth_none ys t is low (omega (arith, high, len)))
    go (Some x) None _ is e = absurd (nth_none xs t is low high)
    go (Some x) (Some y) _ _ e = ap Some e

module _ (ms : List Moment) (l : Line) (t : ℕ) (low : 1 ≤ t) where
  -- by what holds before and after
  unmoved_by :
      level_of t (after (now ms) l) ≡ level_of t (now ms)
      → awaited_by t (after (now ms) l) ≡ awaited_by t (now ms)
      → (standing (after (now ms) l) t).inverted ≡ (standing (now ms) t).inverted
      → (standing (after (now ms) l) t).stalled ≡ (standing (now ms) t).stalled
      → IsUnmoved (moment_of ms l) ms t
  unmoved_by level awaited inverted stalled =
      let line : wait_line t (moment_of ms l ∷ ms) ≡ wait_line t ms =
      ap (λ o. option_map_or (λ (s : Start). s.line) o 0)
      (start-same (record { from = 0; until = 0 }) (λ ms. awaited_by t (now ms))
      (moment_of ms l) ms awaited) in
      record {
        gets = level;
        waits = awaited;
        inverted =
            ap (λ n. of_wait n (standing (after (now ms) l) t).inverted) line
            ∙ ap (of_wait (wait_line t ms)) inverted;
        stalled =
            ap (λ n. of_wait n (standing (after (now ms) l) t).stalled) line
            ∙ ap (of_wait (wait_line t ms)) stalled;
      }

  -- what was no thread and is none
  unmoved_none :
      AreWaits (now ms)
      → length (after (now ms) l).state.base < t
      → IsUnmoved (moment_of ms l) ms t
  unmoved_none are past =
      let more = count_more (now ms) l in
      let old = nothing (now ms) t are (omega (arith, past, more)) in
      let new = nothing (after (now ms) l) t (AreWaits-after (now ms) l are) past in
      unmoved_by (new.level ∙ sym old.level) (new.awaited ∙ sym old.awaited)
      (new.inverted ∙ sym old.inverted) (new.stalled ∙ sym old.stalled)

  -- a thread that isn't touched, nor that of the line
  unmoved_task :
      IsLike (now ms) l
      → IsUntouched (now ms).state (after (now ms) l).state t
      → t ≤ length (now ms).state.base
      → ((k : ℕ) → actor (now ms) l ≡ Some k → k ≢ t)
      → IsUnmoved (moment_of ms l) ms t
  unmoved_task like same high other =
      let w = now ms in
      let v = after w l in
      let kept = same.each t (way_first (blocker w.state) (length w.state.base) t) in
      let standing_is : standing (with_kernel v no_kernel) t ≡ standing (with_kernel w no_kernel) t =
      standing_same (with_kernel w no_kernel) (with_kernel v no_kernel) t same
      (ap (λ (s : Lists). s.0) like.lists) (ap (λ (s : Lists). s.1) like.lists)
      (ap (λ (s : Lists). s.2) like.lists)
      (λ r is. unrun v t r ∙ sym (unrun w t r)) in
      unmoved_by
      (ap (λ got. option_map (λ level. (got, level, 0)) (nth v.state.base t)) kept.gets
      ∙ ap (option_map (λ level. (gets w.state t, level, 0)))
      (base_same w.state.base v.state.base t low high like.count kept.base))
      (ap (option_map (λ (x : Wait). (mutex_number v x.mutex, 0, 0))) (wait-after l t w other)
      ∙ ap (λ ns. option_map (λ (x : Wait). (unwrap_or (nth ns x.mutex) 0, 0, 0)) (wait_of w.state t))
      (ap (λ (s : Lists). s.1) like.lists))
      (ap (λ s. s.inverted) standing_is) (ap (λ s. s.stalled) standing_is)

-- ---- for the caller

module _ (ms : List Moment) (l : Line) (are : AreWaits (now ms)) where
  -- a line that affects all: each thread is one of these
  pub unmoved_all :
      (v : World) (ts : List ℕ)
      → v ≡ after (now ms) l
      → ((t : ℕ) → IsTask v.state t → contains ts t ≡ true)
      → AreUnmovedBy ms l ts
  unmoved_all v ts is all t low out = go (cases_lt (length (after (now ms) l).state.base) t)
    where
      go : (length (after (now ms) l).state.base < t) ⊎ (t ≤ length (after (now ms) l).state.base)
          → IsUnmoved (moment_of ms l) ms t
      go (inl past) = unmoved_none ms l t low are past
      go (inr high) =
          let count : length v.state.base ≡ length (after (now ms) l).state.base =
          ap (λ (v : World). length v.state.base) is in
          absurd (let no : false ≡ true =
          sym out ∙ all t (low, omega (arith, high, count)) in cc)

  -- another line: its thread, and those that it touches
  pub unmoved_but :
      (v : World) (thread : Option ℕ) (ts us : List ℕ)
      → v ≡ after (now ms) l
      → affects_all l ≡ false
      → thread ≡ actor (now ms) l
      → (declares l ≡ false → Touches (now ms).state v.state [] us)
      → ts ≡ with_first thread us
      → AreUnmovedBy ms l ts
  unmoved_but v thread ts us is affects actor_is touches e t low out =
      go (cases_lt (length (now ms).state.base) t)
    where
      like : IsLike (now ms) l
      like = is_like (now ms) l affects

      touched : Touches (now ms).state (after (now ms) l).state [] us
      touched =
          subst (λ (v : World). Touches (now ms).state v.state [] us) is (touches like.declared)

      outside : contains (with_first thread us) t ≡ false
      outside = ap (λ (ts : List ℕ). contains ts t) (sym e) ∙ out

      rest : (o : Option ℕ) → contains (with_first o us) t ≡ false → contains us t ≡ false
      rest None h = h
      rest (Some k) h = not_later k (contains us t) refl h
        where
          not_later : (k : ℕ) (b : Bool) → contains us t ≡ b → contains (k ∷ us) t ≡ false
              → contains us t ≡ false
          not_later k false is h = is
          not_later k true is h = absurd (let no : true ≡ false = sym (contains-later k us t is) ∙ h in cc)

      first : (o : Option ℕ) (k : ℕ) → contains (with_first o us) t ≡ false → o ≡ Some k → k ≢ t
      first None k h e same = cc
      first (Some j) k h e same =
          let j_is : j ≡ k = same_Some j k e in
          absurd (let no : true ≡ false = sym (contains-first j us t (sym (j_is ∙ same))) ∙ h in cc)

      go : (length (now ms).state.base < t) ⊎ (t ≤ length (now ms).state.base)
          → IsUnmoved (moment_of ms l) ms t
      go (inl past) = let count = like.count in unmoved_none ms l t low are (omega (arith, past, count))
      go (inr high) =
          unmoved_task ms l t low like
          (touched.others t (low, high)
          (ap (λ (us : List ℕ). contains us t) (sym touched.appended) ∙ rest thread outside))
          high (λ k a. first thread k outside (actor_is ∙ a))

-- the owner of another mutex
pub unmoved_owner :
    (ms : List Moment) (l : Line) (n : ℕ)
    → ((k : ℕ) → mutex_of (now ms) l ≡ Some k → k ≢ n)
    → holding kinds.Owns n (moment_of ms l ∷ ms) ≡ holding kinds.Owns n ms
unmoved_owner ms l n other = ap (option_map (λ t. (t, 0, 0))) (owner-after l n (now ms) other)
