-- The levels of threads, kept line by line, and the threads of which a line may change them.
use Rattle.std.proofs.Common.{◌≡◌, ◌≢◌, ℕ, Bool, true, false, nat_lt, List, [], ◌∷◌, ◌++◌, length}
use Rattle.std.proofs.Common.{map, Option, Some, None, unwrap_or, option_and_then, refl, sym, ◌∙◌}
use Rattle.std.proofs.Common.{ap, subst, inl, inr, if◌then◌else◌}
use Rattle.std.specs.Prelude.{◌==◌}
use Rattle.std.specs.List.{filter}
use Rattle.std.specs.Option.{option_map_or}
use Rattle.std.proofs.lemmas.Bool.{eq-eqb}
use Rattle.std.proofs.lemmas.Bool.Decides.{eqb_tells}
use Rattle.pim_base.specs.Lists.{nth, contains, numbers, sort_by}
use Rattle.pim_base.specs.State.{with_wait, with_ceiling, task_numbers}
use Rattle.pim_base.specs.Chains.{blocker}
use Rattle.pim_base.proofs.Places.{nth-put_other}
use Rattle.pim_fact_lines.specs.declared.line.Line.{Line}
use Rattle.pim_fact_lines.specs.declared.line.Line.TheVariants as lines
use Rattle.pim_fact_lines.specs.declared.line.What.{What}
use Rattle.pim_fact_lines.specs.declared.line.What.TheVariants as whats
use Rattle.pim_waits.specs.Model.{wait_for}
use Rattle.pim_waits.specs.Touched.{IsUntouched, Touches}
use Rattle.pim_waits.specs.Waiting.{gets}
use Rattle.pim_world.specs.Worlds.{World, no_world}
use Rattle.pim_world.specs.After.{after, after_what, at_time, set, with_state, locked, unlocked}
use Rattle.pim_world.specs.Touching.{declares}
use Rattle.pim_world.proofs.Touching.{outside_both}
use Rattle.pim_rows.specs.declared.runs.RunChange.{RunChange}
use Rattle.pim_world.specs.Standing.{thread_number, runs_of}
use Rattle.pim_rows.specs.Begun.{run_apart}
use Rattle.pim_rows.specs.Found.{actor}
use Rattle.pim_rows.specs.Rows.{by_number}
use Rattle.pim_rows.specs.Runs.{AreChanges, IsEven, change_of}
use Rattle.pim_rows.specs.Levels.{AreLevels, with_levels, MayChange, IsUnrun, moves_all}
use Rattle.pim_rows.proofs.Frames.{at_kept, fact_kept}
use Rattle.pim_rows.proofs.InOrder.{upto_only}
use Rattle.pim_rows.proofs.RunChanges.{base_len-fact, none_known-after_what, undeclared_same}
use Rattle.pim_rows.proofs.RunChanges.{all_changes, none_before}
use Rattle.pim_rows.proofs.Running.{changes_in_order, none_at_first}
use Rattle.pim_rows.proofs.SameStanding.{way_first}
use Rattle.pim_rows.proofs.Starting.{set_same, set_other}

-- ---- what is kept

pub levels_at_first :
    (kept : ℕ → Option (Option (ℕ × ℕ)))
    → ((t : ℕ) → kept t ≡ None)
    → AreLevels kept no_world
levels_at_first kept none t = ap (λ o. unwrap_or o None) (none t) ∙ sym (none_at_first t)

module _ (w v : World) (t : ℕ) where
  abbrev Kept : Type 0
  Kept = ℕ → Option (Option (ℕ × ℕ))

  abbrev steps : Kept → List ℕ → Kept
  steps kept ts = with_levels kept (map (change_of w v) ts)

  here :
      (kept : Kept) (u : ℕ)
      → t ≡ u
      → unwrap_or (set u (Some (run_apart v u)) kept t) None ≡ run_apart v t
  here kept u same =
      subst (λ (u : ℕ). unwrap_or (set u (Some (run_apart v u)) kept t) None ≡ run_apart v t) same
      (ap (λ o. unwrap_or o None) (set_same t (Some (run_apart v t)) kept))

  elsewhere :
      (kept : Kept) (u : ℕ)
      → t ≢ u
      → unwrap_or (set u (Some (run_apart v u)) kept t) None ≡ unwrap_or (kept t) None
  elsewhere kept u ne =
      ap (λ o. unwrap_or o None) (set_other u t (Some (run_apart v u)) kept (λ e. ne (sym e)))

  steps_same :
      (ts : List ℕ) (kept : Kept)
      → unwrap_or (kept t) None ≡ run_apart v t
      → unwrap_or (steps kept ts t) None ≡ run_apart v t
  steps_same [] kept is = is
  steps_same (u ∷ ts) kept is =
      steps_same ts (set u (Some (run_apart v u)) kept) (elim (eqb_tells t u) [
        | inl (_, same) ↦ here kept u same
        | inr (_, ne) ↦ elsewhere kept u ne ∙ is
      ])

  steps_among :
      (ts : List ℕ) (kept : Kept)
      → contains ts t ≡ true
      → unwrap_or (steps kept ts t) None ≡ run_apart v t
  steps_among [] kept among = absurd (let no : false ≡ true = among in cc)
  steps_among (u ∷ ts) kept among = elim (eqb_tells t u) [
    | inl (_, same) ↦ steps_same ts (set u (Some (run_apart v u)) kept) (here kept u same)
    | inr (differs, _) ↦ steps_among ts (set u (Some (run_apart v u)) kept) (rw differs at among)
  ]

pub levels_followed : (w v : World)
    (ts : List ℕ) (cs : List RunChange) (old new : ℕ → Option (Option (ℕ × ℕ)))
    → AreChanges w v ts cs → AreLevels old w → new ≡ with_levels old cs → AreLevels new v
levels_followed w v ts cs old new changes are e t =
    ap (λ (kept : ℕ → Option (Option (ℕ × ℕ))). unwrap_or (kept t) None)
    (e ∙ ap (with_levels old) changes.values)
    ∙ go (contains ts t) refl
  where
    go :
        (b : Bool)
        → contains ts t ≡ b
        → unwrap_or (with_levels old (map (change_of w v) ts) t) None ≡ run_apart v t
    go true among = steps_among w v t ts old among
    go false out = steps_same w v t ts old (are t ∙ sym (changes.others t out))

-- ---- what a line leaves

threads-after_what : (what : What) (t : ℕ) (w : World) → (after_what what t w).threads ≡ w.threads
threads-after_what (whats.Granted m) t w =
    at_kept (λ w. w.threads)
    (w.mutex m) (λ n w. with_state w (locked (with_wait w.state t None) t n)) w (λ n. refl)
threads-after_what (whats.Took m) t w =
    at_kept (λ w. w.threads) (w.mutex m) (λ n w. with_state w (locked w.state t n)) w (λ n. refl)
threads-after_what (whats.Waits m) t w =
    at_kept (λ w. w.threads)
    (w.mutex m) (λ n w. with_state w (with_wait w.state t (Some (wait_for n)))) w (λ n. refl)
threads-after_what (whats.GaveUp m) t w = refl
threads-after_what (whats.Released m) t w =
    at_kept (λ w. w.threads) (w.mutex m) (λ n w. with_state w (unlocked w.state n)) w (λ n. refl)
threads-after_what (whats.Priority level) t w = refl
threads-after_what (whats.Ceiling m level) t w =
    at_kept (λ w. w.threads)
    (w.mutex m) (λ n w. with_state w (with_ceiling w.state n level)) w (λ n. refl)
threads-after_what (whats.Blocks x) t w = refl
threads-after_what (whats.Resumes x ended) t w = refl
threads-after_what (whats.Runs level) t w = refl
threads-after_what (whats.On cpu) t w = refl
threads-after_what whats.OffReady t w = refl
threads-after_what whats.OffAsleep t w = refl

runs-after_what :
    (what : What) (t u : ℕ) (w : World)
    → t ≢ u
    → runs_of (after_what what t w) u ≡ runs_of w u
runs-after_what (whats.Granted m) t u w ne = none_known-after_what (whats.Granted m) t w refl u
runs-after_what (whats.Took m) t u w ne = none_known-after_what (whats.Took m) t w refl u
runs-after_what (whats.Waits m) t u w ne = none_known-after_what (whats.Waits m) t w refl u
runs-after_what (whats.GaveUp m) t u w ne = refl
runs-after_what (whats.Released m) t u w ne = none_known-after_what (whats.Released m) t w refl u
runs-after_what (whats.Priority level) t u w ne = refl
runs-after_what (whats.Ceiling m level) t u w ne =
    none_known-after_what (whats.Ceiling m level) t w refl u
runs-after_what (whats.Blocks x) t u w ne = refl
runs-after_what (whats.Resumes x ended) t u w ne = refl
runs-after_what (whats.Runs level) t u w ne =
    ap (λ x. unwrap_or x None) (nth-put_other w.kernel.runs t u (Some level) ne)
runs-after_what (whats.On cpu) t u w ne = refl
runs-after_what whats.OffReady t u w ne = refl
runs-after_what whats.OffAsleep t u w ne = refl

module _ (w : World) where
  threads-after : (l : Line) → moves_all l ≡ false → (after w l).threads ≡ w.threads
  threads-after (lines.Thread t level) h = absurd (let no : true ≡ false = h in cc)
  threads-after (lines.Mutex m is_recursive protocol) h = refl
  threads-after (lines.Object x) h = refl
  threads-after lines.Unseen h = refl
  threads-after (lines.Fact time t what) h =
      fact_kept (λ w. w.threads)
      (w.thread t) what time w (λ p e. threads-after_what what p (at_time time w)) refl
  threads-after (lines.Lost time) h = refl
  threads-after (lines.End time) h = refl

  base_len-after :
      (l : Line)
      → moves_all l ≡ false
      → length (after w l).state.base ≡ length w.state.base
  base_len-after (lines.Thread t level) h = absurd (let no : true ≡ false = h in cc)
  base_len-after (lines.Mutex m is_recursive protocol) h = refl
  base_len-after (lines.Object x) h = refl
  base_len-after lines.Unseen h = refl
  base_len-after (lines.Fact time t what) h = base_len-fact time t what w
  base_len-after (lines.Lost time) h = refl
  base_len-after (lines.End time) h = refl

  runs-after :
      (l : Line) (u : ℕ)
      → moves_all l ≡ false
      → ((p : ℕ) → actor w l ≡ Some p → p ≢ u)
      → runs_of (after w l) u ≡ runs_of w u
  runs-after (lines.Thread t level) u h ne = absurd (let no : true ≡ false = h in cc)
  runs-after (lines.Mutex m is_recursive protocol) u h ne = refl
  runs-after (lines.Object x) u h ne = refl
  runs-after lines.Unseen u h ne = refl
  runs-after (lines.Fact time t what) u h ne =
      fact_kept (λ w. runs_of w u)
      (w.thread t) what time w (λ p e. runs-after_what what p u (at_time time w) (ne p e)) refl
  runs-after (lines.Lost time) u h ne = absurd (let no : true ≡ false = h in cc)
  runs-after (lines.End time) u h ne = refl

  declares-not : (l : Line) → moves_all l ≡ false → declares l ≡ false
  declares-not (lines.Thread t level) h = h
  declares-not (lines.Mutex m is_recursive protocol) h = h
  declares-not (lines.Object x) h = refl
  declares-not lines.Unseen h = refl
  declares-not (lines.Fact time t what) h = refl
  declares-not (lines.Lost time) h = refl
  declares-not (lines.End time) h = refl

  by_number-after : (l : Line) → moves_all l ≡ false → by_number (after w l) ≡ by_number w
  by_number-after l h =
      ap (λ (ts : List ℕ). sort_by (λ t u. nat_lt (unwrap_or (nth ts t) 0) (unwrap_or (nth ts u) 0))
      (task_numbers (after w l).state))
      (threads-after l h)
      ∙ ap (λ n. sort_by (λ t u. nat_lt (thread_number w t) (thread_number w u)) (numbers n))
      (base_len-after l h)

-- ---- which threads

-- a thread that is none of these, and isn't the one after them
without_thread :
    (o : Option ℕ) (ts : List ℕ) (t : ℕ)
    → contains (option_map_or (λ x. ts ++ x ∷ []) o ts) t ≡ false
    → (contains ts t ≡ false) × ((p : ℕ) → o ≡ Some p → p ≢ t)
without_thread None ts t out = (out, λ p e. let no : None ≡ Some p = e in cc)
without_thread (Some x) ts t out =
    let both = outside_both ts (x ∷ []) t out in (
      both.0,
      λ p e same.
          let is : t ≡ x = sym same ∙ sym (same_item x p e) in
          let no : false ≡ true = sym both.1 ∙ first x t is in cc,
    )
  where
    same_item : (x p : ℕ) → Some x ≡ Some p → x ≡ p
    same_item x p e = cc

    first : (x t : ℕ) → t ≡ x → contains (x ∷ []) t ≡ true
    first x t is = rw (eq-eqb t x is) refl

module _ (w v : World) (l : Line) (is_after : v ≡ after w l) (even : IsEven w) where
  pub changed_none : (ts : List ℕ) → ts ≡ [] → IsUnrun w l → MayChange w l ts
  changed_none ts e unrun =
      subst (MayChange w l) (sym e) (λ cs values. none_before w l unrun.0 unrun.1 cs values)

  pub changed_all : (ts : List ℕ) → ts ≡ by_number w → MayChange w l ts
  changed_all ts e = subst (MayChange w l) (sym e) (λ cs values. all_changes w l cs even values)

  pub changed_some : (o : Option ℕ) (touched us ts : List ℕ) → moves_all l ≡ false → o ≡ actor w l
      → (declares l ≡ false → Touches w.state v.state [] touched)
      → us ≡ option_map_or (λ t. touched ++ t ∷ []) o touched
      → ts ≡ filter (contains us) (by_number v)
      → MayChange w l ts
  changed_some o touched us ts h is_actor touches us_are ts_are =
      subst (MayChange w l)
      (sym (ts_are ∙ ap (filter (contains us)) (ap by_number is_after ∙ by_number-after w l h)))
      (λ cs values. changes_in_order w (after w l) us cs values others (undeclared_same w l even))
    where
      all_touched : Touches w.state (after w l).state [] touched
      all_touched =
          subst (λ (v : World). Touches w.state v.state [] touched) is_after
          (touches (declares-not w l h))

      same :
          (t : ℕ)
          → contains us t ≡ false
          → contains (by_number w) t ≡ true
          → run_apart (after w l) t ≡ run_apart w t
      same t out there =
          let parts =
          without_thread o touched t (ap (λ (us : List ℕ). contains us t) (sym us_are) ∙ out) in
          let task = upto_only (thread_number w) (length w.state.base) t there in
          let untouched : IsUntouched w.state (after w l).state t =
          all_touched.others t task
          (ap (λ (ts : List ℕ). contains ts t) (sym all_touched.appended) ∙ parts.0) in
          let got = (untouched.each t (way_first (blocker w.state) (length w.state.base) t)).gets in
          ap (λ got. option_and_then (λ level. if level == got then None else Some (level, got))
          (runs_of (after w l) t)) got
          ∙ ap (option_and_then
          (λ level. if level == gets w.state t then None else Some (level, gets w.state t)))
          (runs-after w l t h (λ p e. parts.1 p (is_actor ∙ e)))

      others : (t : ℕ) → contains us t ≡ false → run_apart (after w l) t ≡ run_apart w t
      others t out = go (contains (by_number w) t) refl
        where
          go : (b : Bool) → contains (by_number w) t ≡ b → run_apart (after w l) t ≡ run_apart w t
          go true there = same t out there
          go false none = undeclared_same w l even t none
