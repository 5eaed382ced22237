-- What holds of a waiting thread that a line doesn't touch.
use Rattle.std.proofs.Common.{◌≡◌, ◌≤◌, ◌<◌, ◌⊎◌, ◌+◌, ◌++◌, ℕ, zero, suc, Bool, true, false, ◌&&◌}
use Rattle.std.proofs.Common.{◌||◌, nat_lt, List, [], ◌∷◌, length, length-append, Option, Some}
use Rattle.std.proofs.Common.{None, is_some, is_none, unwrap_or, option_and_then, not, refl, sym}
use Rattle.std.proofs.Common.{◌∙◌, ap, subst, inl, inr, arith, if◌then◌else◌}
use Rattle.std.specs.Prelude.{◌==◌}
use Rattle.std.specs.Option.{option_map, option_map_or}
use Rattle.std.proofs.lemmas.Bool.{cases_lt}
use Rattle.std.proofs.lemmas.Bool.Decides.{eqb_tells}
use Rattle.std.proofs.lemmas.Option.{slice_get_past, same_Some}
use Rattle.pim_base.specs.Lists.{nth, contains}
use Rattle.pim_base.specs.State.{State, IsTask, base_of, with_wait}
use Rattle.pim_base.specs.Chains.{chain, blocker}
use Rattle.pim_base.proofs.Places.{length-put}
use Rattle.pim_fact_lines.specs.declared.line.Line.{Line}
use Rattle.pim_fact_lines.specs.declared.line.Line.TheVariants as lines
use Rattle.pim_fact_lines.specs.declared.line.What.{What}
use Rattle.pim_fact_lines.specs.declared.line.What.TheVariants as whats
use Rattle.pim_waits.specs.Model.{wait_for}
use Rattle.pim_waits.specs.Touched.{IsUntouched, Touches}
use Rattle.pim_waits.specs.Waiting.{gets, way, runner, blame, other_end, last_item}
use Rattle.pim_waits.proofs.Lists.{contains-first, contains-left, contains-push}
use Rattle.pim_waits.proofs.Ways.{contains-last_item}
use Rattle.pim_world.specs.Worlds.{World, Kernel, no_world, blocked_at, last_cpu}
use Rattle.pim_world.specs.After.{after, after_what, at_time}
use Rattle.pim_world.specs.Touching.{declares}
use Rattle.pim_world.proofs.Touching.{outside_both}
use Rattle.pim_world.specs.declared.standing.Standing.{Standing}
use Rattle.pim_world.specs.Standing.{Key, standing, waits, thread_number, mutex_number, off_of}
use Rattle.pim_world.specs.Standing.{is_ready_off, in_place_of, could_run, run_level, meanwhile_of}
use Rattle.pim_world.specs.Standing.{inverted_by, inverted_key, stalled_key, meanwhile_key}
use Rattle.pim_rows.specs.Affected.{AreWaits, affects_all, is_of_object, is_of_state, keeps_rest}
use Rattle.pim_rows.specs.AllOpen.{AreSame}
use Rattle.pim_rows.proofs.Frames.{by_grant, by_take, by_wait, by_release, by_ceiling, at_kept}
use Rattle.pim_rows.proofs.Frames.{fact_kept, wait-locked, wait-unlocked}
use Rattle.pim_rows.proofs.RunChanges.{base_len-fact}

-- ---- the ends of a way

pub way_first : (hop : ℕ → Option ℕ) (n t : ℕ) → contains (chain hop n t) t ≡ true
way_first hop zero t = contains-first t [] t refl
way_first hop (suc n) t = contains-first t (option_map_or (chain hop n) (hop t) []) t refl

runner_last : (S : State) (t r : ℕ) → runner S t ≡ Some r → last_item (way S t) ≡ Some r
runner_last S t r e = go (last_item (way S t)) e
  where
    end : (x : ℕ) (b : Bool) → (if b then None else Some x) ≡ Some r → x ≡ r
    end x true e = cc
    end x false e = same_Some x r e

    go : (o : Option ℕ) → option_and_then (other_end S t) o ≡ Some r → o ≡ Some r
    go None e = cc
    go (Some x) e = ap Some (end x (x == t || is_some (blocker S x)) e)

-- ---- what a standing is made of

-- of two that may be there, or not
chosen : {A : Type 0} (f g : ℕ → A) (b : Bool) (r : ℕ) → f r ≡ g r
    → option_map f (if b then Some r else None) ≡ option_map g (if b then Some r else None)
chosen f g true r e = ap Some e
chosen f g false r e = refl

chosen_twice :
    {A : Type 0} (f g : ℕ → A) (h k : ℕ → Option ℕ) (b : Bool) (r : ℕ)
    → (b ≡ true → option_map f (h r) ≡ option_map g (k r))
    → option_map f (option_and_then h (if b then Some r else None))
    ≡ option_map g (option_and_then k (if b then Some r else None))
chosen_twice f g h k true r e = e refl
chosen_twice f g h k false r e = refl

abbrev less_than : World → ℕ → ℕ → ℕ → Option ℕ
less_than w t r has = if could_run w r && nat_lt has (gets w.state t) then Some r else None

abbrev made : Bool → Option Key → Option Key → Option Key → Standing
made lower inverted stalled meanwhile =
    record { lower = lower; inverted = inverted; stalled = stalled; meanwhile = meanwhile }

abbrev standing_by : World → ℕ → Option ℕ → Standing
standing_by w t o =
    made (is_some (option_and_then (λ r. less_than w t r (base_of w.state r)) o))
    (option_map (inverted_key w t) (option_and_then (λ r. less_than w t r (gets w.state r)) o))
    (option_and_then (stalled_key w) o)
    (option_map (meanwhile_key w) (option_and_then
    (meanwhile_of w t) (option_and_then (λ r. less_than w t r (gets w.state r)) o)))

made_same :
    (l l' : Bool) (i i' s s' m m' : Option Key)
    → l ≡ l'
    → i ≡ i'
    → s ≡ s'
    → m ≡ m'
    → made l i s m ≡ made l' i' s' m'
made_same l l' i i' s s' m m' a b c d = rw (a, b, c, d) refl

key_same : (a a' b b' c c' : ℕ) → a ≡ a' → b ≡ b' → c ≡ c' → ◌≡◌ {A = Key} (a, b, c) (a', b', c')
key_same a a' b b' c c' x y z = rw (x, y, z) refl

-- the thread that runs in place of the runner r of t
abbrev run_meanwhile : World → ℕ → ℕ → Option Key
run_meanwhile w t r = option_map (meanwhile_key w) (meanwhile_of w t r)

module _
    (w v : World) (t : ℕ) (same : IsUntouched w.state v.state t) (threads : v.threads ≡ w.threads)
    (mutexes : v.mutexes ≡ w.mutexes) (blocked : v.blocked ≡ w.blocked)
    (meanwhile : (r : ℕ)
    → inverted_by w t ≡ Some r → run_meanwhile v t r ≡ run_meanwhile w t r) where
  gets_t : gets v.state t ≡ gets w.state t
  gets_t = (same.each t (way_first (blocker w.state) (length w.state.base) t)).gets

  less_same : (r has has' : ℕ) → has ≡ has' → less_than v t r has ≡ less_than w t r has'
  less_same r has has' e =
      ap (λ bs. if is_none (unwrap_or (nth bs r) None) && nat_lt has (gets v.state t)
      then Some r else None) blocked
      ∙ ap (λ has. if could_run w r && nat_lt has (gets v.state t) then Some r else None) e
      ∙ ap (λ got. if could_run w r && nat_lt has' got then Some r else None) gets_t

  blamed_same : mutex_number v (unwrap_or (blame v.state t) 0)
      ≡ mutex_number w (unwrap_or (blame w.state t) 0)
  blamed_same =
      ap (λ ms. unwrap_or (nth ms (unwrap_or (blame v.state t) 0)) 0) mutexes
      ∙ ap (λ m. mutex_number w (unwrap_or m 0)) same.blame

  number_same : (r : ℕ) → thread_number v r ≡ thread_number w r
  number_same r = ap (λ ts. unwrap_or (nth ts r) 0) threads

  stalled_same : (r : ℕ) → stalled_key v r ≡ stalled_key w r
  stalled_same r =
      ap (λ bs. option_map (λ x. (x, thread_number v r, 0)) (unwrap_or (nth bs r) None)) blocked
      ∙ ap (λ n. option_map (λ x. (x, n, 0)) (blocked_at w r)) (number_same r)

  inverted_is :
      (r : ℕ)
      → runner w.state t ≡ Some r
      → (could_run w r && nat_lt (gets w.state r) (gets w.state t)) ≡ true
      → inverted_by w t ≡ Some r
  inverted_is r e is =
      ap (option_and_then (λ r. less_than w t r (gets w.state r))) e
      ∙ ap (λ b. if b then Some r else None) is

  by_runner : (o : Option ℕ) → runner w.state t ≡ o → standing_by v t o ≡ standing_by w t o
  by_runner None e = refl
  by_runner (Some r) e =
      let kept = same.each r (contains-last_item (way w.state t) r (runner_last w.state t r e)) in
      let less = less_same r (gets v.state r) (gets w.state r) kept.gets in
      let b = could_run w r && nat_lt (gets w.state r) (gets w.state t) in
      made_same _ _ _ _ _ _ _ _
      (ap is_some (less_same r (base_of v.state r) (base_of w.state r) kept.base))
      (ap (option_map (inverted_key v t)) less
      ∙ chosen (inverted_key v t) (inverted_key w t) b r
      (key_same _ _ _ _ _ _ blamed_same (number_same r) kept.gets))
      (stalled_same r)
      (ap (λ o. option_map (meanwhile_key v) (option_and_then (meanwhile_of v t) o)) less
      ∙ chosen_twice (meanwhile_key v) (meanwhile_key w) (meanwhile_of v t) (meanwhile_of w t) b r
      (λ is. meanwhile r (inverted_is r e is)))

  pub standing_same : standing v t ≡ standing w t
  standing_same = ap (standing_by v t) same.runner ∙ by_runner (runner w.state t) refl

-- ---- no thread is on a CPU

in_place-none : (k : Kernel) (r : ℕ) → ((c : ℕ) → k.on c ≡ None) → in_place_of k r ≡ None
in_place-none k r none = go (is_ready_off (off_of k r)) (last_cpu k r)
  where
    go : (b : Bool) (o : Option ℕ) → (if b then option_and_then k.on o else None) ≡ None
    go true None = refl
    go true (Some c) = none c
    go false o = refl

meanwhile-none :
    (w : World) (t r : ℕ)
    → ((c : ℕ) → w.kernel.on c ≡ None)
    → run_meanwhile w t r ≡ None
meanwhile-none w t r none =
    ap
    (λ o. option_map (meanwhile_key w)
    (option_and_then
    (λ u. if not (u == t) && nat_lt (run_level w u) (gets w.state t) then Some u else None) o))
    (in_place-none w.kernel r none)

-- ---- what a line leaves

abbrev Rest : Type 0
Rest = List ℕ × List ℕ × List (Option ℕ) × Kernel

-- all but the state and the clock
abbrev rest : World → Rest
rest w = (w.threads, w.mutexes, w.blocked, w.kernel)

rest-after_what :
    (what : What) (t : ℕ) (w : World)
    → is_of_state what ≡ true
    → rest (after_what what t w) ≡ rest w
rest-after_what (whats.Granted m) t w h = at_kept rest (w.mutex m) (by_grant t) w (λ n. refl)
rest-after_what (whats.Took m) t w h = at_kept rest (w.mutex m) (by_take t) w (λ n. refl)
rest-after_what (whats.Waits m) t w h = at_kept rest (w.mutex m) (by_wait t) w (λ n. refl)
rest-after_what (whats.GaveUp m) t w h = refl
rest-after_what (whats.Released m) t w h = at_kept rest (w.mutex m) by_release w (λ n. refl)
rest-after_what (whats.Priority level) t w h = refl
rest-after_what (whats.Ceiling m level) t w h =
    at_kept rest (w.mutex m) (by_ceiling level) w (λ n. refl)
rest-after_what (whats.Blocks x) t w h = absurd (let no : false ≡ true = h in cc)
rest-after_what (whats.Resumes x ended) t w h = absurd (let no : false ≡ true = h in cc)
rest-after_what (whats.Runs level) t w h = absurd (let no : false ≡ true = h in cc)
rest-after_what (whats.On cpu) t w h = absurd (let no : false ≡ true = h in cc)
rest-after_what whats.OffReady t w h = absurd (let no : false ≡ true = h in cc)
rest-after_what whats.OffAsleep t w h = absurd (let no : false ≡ true = h in cc)

rest-after : (w : World) (l : Line) → keeps_rest l ≡ true → rest (after w l) ≡ rest w
rest-after w (lines.Thread t level) h = absurd (let no : false ≡ true = h in cc)
rest-after w (lines.Mutex m is_recursive protocol) h = absurd (let no : false ≡ true = h in cc)
rest-after w (lines.Object x) h = refl
rest-after w lines.Unseen h = refl
rest-after w (lines.Fact time t what) h =
    fact_kept rest (w.thread t) what time w (λ p e. rest-after_what what p (at_time time w) h) refl
rest-after w (lines.Lost time) h = absurd (let no : false ≡ true = h in cc)
rest-after w (lines.End time) h = refl

keeps_declared : (l : Line) → keeps_rest l ≡ true → declares l ≡ false
keeps_declared (lines.Thread t level) h = absurd (let no : false ≡ true = h in cc)
keeps_declared (lines.Mutex m is_recursive protocol) h = absurd (let no : false ≡ true = h in cc)
keeps_declared (lines.Object x) h = refl
keeps_declared lines.Unseen h = refl
keeps_declared (lines.Fact time t what) h = refl
keeps_declared (lines.Lost time) h = refl
keeps_declared (lines.End time) h = refl

-- all but what the kernel does, too
abbrev Most : Type 0
Most = List ℕ × List ℕ × List (Option ℕ)

abbrev most : World → Most
most w = (w.threads, w.mutexes, w.blocked)

most-after_what :
    (what : What) (t : ℕ) (w : World)
    → is_of_object what ≡ false
    → most (after_what what t w) ≡ most w
most-after_what (whats.Granted m) t w h = at_kept most (w.mutex m) (by_grant t) w (λ n. refl)
most-after_what (whats.Took m) t w h = at_kept most (w.mutex m) (by_take t) w (λ n. refl)
most-after_what (whats.Waits m) t w h = at_kept most (w.mutex m) (by_wait t) w (λ n. refl)
most-after_what (whats.GaveUp m) t w h = refl
most-after_what (whats.Released m) t w h = at_kept most (w.mutex m) by_release w (λ n. refl)
most-after_what (whats.Priority level) t w h = refl
most-after_what (whats.Ceiling m level) t w h =
    at_kept most (w.mutex m) (by_ceiling level) w (λ n. refl)
most-after_what (whats.Blocks x) t w h = absurd (let no : true ≡ false = h in cc)
most-after_what (whats.Resumes x ended) t w h = absurd (let no : true ≡ false = h in cc)
most-after_what (whats.Runs level) t w h = refl
most-after_what (whats.On cpu) t w h = refl
most-after_what whats.OffReady t w h = refl
most-after_what whats.OffAsleep t w h = refl

most-after : (w : World) (l : Line) → affects_all l ≡ false → most (after w l) ≡ most w
most-after w (lines.Thread t level) h = absurd (let no : true ≡ false = h in cc)
most-after w (lines.Mutex m is_recursive protocol) h = absurd (let no : true ≡ false = h in cc)
most-after w (lines.Object x) h = refl
most-after w lines.Unseen h = refl
most-after w (lines.Fact time t what) h =
    fact_kept most (w.thread t) what time w (λ p e. most-after_what what p (at_time time w) h) refl
most-after w (lines.Lost time) h = refl
most-after w (lines.End time) h = refl

most_declared : (l : Line) → affects_all l ≡ false → declares l ≡ false
most_declared (lines.Thread t level) h = h
most_declared (lines.Mutex m is_recursive protocol) h = h
most_declared (lines.Object x) h = refl
most_declared lines.Unseen h = refl
most_declared (lines.Fact time t what) h = refl
most_declared (lines.Lost time) h = refl
most_declared (lines.End time) h = refl

-- ---- which threads may wait

wait_len-after_what :
    (what : What) (t : ℕ) (w : World)
    → length (after_what what t w).state.wait ≡ length w.state.wait
wait_len-after_what (whats.Granted m) t w =
    at_kept (λ w. length w.state.wait) (w.mutex m) (by_grant t) w
    (λ n. ap length (wait-locked (with_wait w.state t None) t n) ∙ length-put w.state.wait t None)
wait_len-after_what (whats.Took m) t w =
    at_kept (λ w. length w.state.wait)
    (w.mutex m) (by_take t) w (λ n. ap length (wait-locked w.state t n))
wait_len-after_what (whats.Waits m) t w =
    at_kept (λ w. length w.state.wait)
    (w.mutex m) (by_wait t) w (λ n. length-put w.state.wait t (Some (wait_for n)))
wait_len-after_what (whats.GaveUp m) t w = length-put w.state.wait t None
wait_len-after_what (whats.Released m) t w =
    at_kept (λ w. length w.state.wait)
    (w.mutex m) by_release w (λ n. ap length (wait-unlocked w.state n))
wait_len-after_what (whats.Priority level) t w = refl
wait_len-after_what (whats.Ceiling m level) t w =
    at_kept (λ w. length w.state.wait) (w.mutex m) (by_ceiling level) w (λ n. refl)
wait_len-after_what (whats.Blocks x) t w = refl
wait_len-after_what (whats.Resumes x ended) t w = refl
wait_len-after_what (whats.Runs level) t w = refl
wait_len-after_what (whats.On cpu) t w = refl
wait_len-after_what whats.OffReady t w = refl
wait_len-after_what whats.OffAsleep t w = refl

pub AreWaits-first : AreWaits no_world
AreWaits-first = refl

pub AreWaits-after : (w : World) (l : Line) → AreWaits w → AreWaits (after w l)
AreWaits-after w (lines.Thread t level) are =
    length-append w.state.wait (None ∷ [])
    ∙ ap (λ n. n + 1) are ∙ sym (length-append w.state.base (level ∷ []))
AreWaits-after w (lines.Mutex m is_recursive protocol) are = are
AreWaits-after w (lines.Object x) are = are
AreWaits-after w lines.Unseen are = are
AreWaits-after w (lines.Fact time t what) are =
    fact_kept (λ w. length w.state.wait)
    (w.thread t) what time w (λ p e. wait_len-after_what what p (at_time time w)) refl
    ∙ are ∙ sym (base_len-fact time t what w)
AreWaits-after w (lines.Lost time) are = are
AreWaits-after w (lines.End time) are = are

something_at :
    {X : Type 0} (xs : List (Option X)) (t : ℕ)
    → is_some (unwrap_or (nth xs t) None) ≡ true
    → (1 ≤ t) × (t ≤ length xs)
something_at xs zero h = absurd (let no : false ≡ true = h in cc)
something_at xs (suc i) h = (omega arith, go (cases_lt i (length xs)))
  where
    go : (i < length xs) ⊎ (length xs ≤ i) → suc i ≤ length xs
    go (inl less) = omega (arith, less)
    go (inr past) =
        absurd (let no : false ≡ true = sym
        (ap (λ x. is_some (unwrap_or x None)) (slice_get_past xs i past)) ∙ h in cc)

waits_task : (w : World) → AreWaits w → (t : ℕ) → waits t w ≡ true → IsTask w.state t
waits_task w are t h = let at = something_at w.state.wait t h in (at.0, omega (arith, at.1, are))

base_len_more : (w : World) (l : Line) → length w.state.base ≤ length (after w l).state.base
base_len_more w (lines.Thread t level) =
    let e = length-append w.state.base (level ∷ []) in omega (arith, e)
base_len_more w (lines.Mutex m is_recursive protocol) = omega arith
base_len_more w (lines.Object x) = omega arith
base_len_more w lines.Unseen = omega arith
base_len_more w (lines.Fact time t what) = let e = base_len-fact time t what w in omega (arith, e)
base_len_more w (lines.Lost time) = omega arith
base_len_more w (lines.End time) = omega arith

-- ---- all threads, one after another

pub upto_none : (xs : List ℕ) (t : ℕ) → 1 ≤ t → t ≤ 0 → contains xs t ≡ true
upto_none xs t low high = absurd (omega (arith, low, high))

pub upto_more :
    (xs ys : List ℕ) (n t : ℕ)
    → ys ≡ xs ++ (n + 1) ∷ []
    → ((t : ℕ) → 1 ≤ t → t ≤ n → contains xs t ≡ true)
    → 1 ≤ t → t ≤ n + 1 → contains ys t ≡ true
upto_more xs ys n t e all low high = ap (λ ts. contains ts t) e ∙ elim (eqb_tells t (n + 1)) [
  | inl (_, is) ↦
      subst (λ t. contains (xs ++ (n + 1) ∷ []) t ≡ true) (sym is) (contains-push xs (n + 1))
  | inr (_, ne) ↦ contains-left xs ((n + 1) ∷ []) t (all t low (omega (arith, high, ne)))
]

-- ---- for the caller

module _ (w v : World) (l : Line) (is_after : v ≡ after w l) (are : AreWaits w) where
  pub same_touched : (ts : List ℕ) → keeps_rest l ≡ true → ((c : ℕ) → v.kernel.on c ≡ None)
      → (declares l ≡ false → Touches w.state v.state [] ts) → AreSame w (after w l) ts
  same_touched ts keeps none touches t lasts other =
      let next = after w l in
      let r : rest next ≡ rest w = rest-after w l keeps in
      let kernel : next.kernel ≡ w.kernel = ap (λ (r : Rest). r.3) r in
      let touched : Touches w.state next.state [] ts =
      subst (λ (v : World). Touches w.state v.state [] ts) is_after
      (touches (keeps_declared l keeps)) in
      let none_after : (c : ℕ) → next.kernel.on c ≡ None =
      λ c. ap (λ (v : World). v.kernel.on c) (sym is_after) ∙ none c in
      let none_before : (c : ℕ) → w.kernel.on c ≡ None =
      λ c. ap (λ (k : Kernel). k.on c) (sym kernel) ∙ none_after c in
      standing_same w next t
      (touched.others t (waits_task w are t lasts)
      (ap (λ (ts : List ℕ). contains ts t) (sym touched.appended) ∙ other))
      (ap (λ (r : Rest). r.0) r) (ap (λ (r : Rest). r.1) r) (ap (λ (r : Rest). r.2) r)
      (λ r is. meanwhile-none next t r none_after ∙ sym (meanwhile-none w t r none_before))

  pub same_inverted : (ts us : List ℕ) → affects_all l ≡ false
      → (declares l ≡ false → Touches w.state v.state [] ts)
      → ((t : ℕ) → waits t w ≡ true → contains us t ≡ false → inverted_by w t ≡ None)
      → AreSame w (after w l) (us ++ ts)
  same_inverted ts us most_kept touches calm t lasts other =
      let next = after w l in
      let both = outside_both us ts t other in
      let m : most next ≡ most w = most-after w l most_kept in
      let touched : Touches w.state next.state [] ts =
      subst (λ (v : World). Touches w.state v.state [] ts) is_after
      (touches (most_declared l most_kept)) in
      standing_same w next t
      (touched.others t (waits_task w are t lasts)
      (ap (λ (ts : List ℕ). contains ts t) (sym touched.appended) ∙ both.1))
      (ap (λ (m : Most). m.0) m) (ap (λ (m : Most). m.1) m) (ap (λ (m : Most). m.2) m)
      (λ r is. absurd (let no : None ≡ Some r = sym (calm t lasts both.0) ∙ is in cc))

  pub same_all :
      (ts : List ℕ)
      → ((t : ℕ) → IsTask v.state t → contains ts t ≡ true)
      → AreSame w (after w l) ts
  same_all ts all t lasts other =
      let task = waits_task w are t lasts in
      let more = base_len_more w l in
      let tasks : length v.state.base ≡ length (after w l).state.base =
      ap (λ (v : World). length v.state.base) is_after in
      absurd (let no : false ≡ true = sym other
      ∙ all t (task.0, omega (arith, task.1, more, tasks)) in cc)
