-- The threads that the kernel runs at another level than they get, after one line more.
use Rattle.std.proofs.Common.{◌≡◌, ◌≢◌, ℕ, zero, suc, ◌+◌, ◌<◌, Bool, true, false, ◌&&◌, List, []}
use Rattle.std.proofs.Common.{◌∷◌, ◌++◌, Option, Some, None, refl, sym, ◌∙◌, ap, inl, inr, subst}
use Rattle.std.proofs.Common.{map, length, take, get_or, append_assoc, append-nil, if◌then◌else◌}
use Rattle.std.specs.Prelude.{◌==◌, ◌⊎◌, flat_map}
use Rattle.std.specs.List.{filter}
use Rattle.std.specs.Option.{option_map_or}
use Rattle.std.proofs.lemmas.Bool.{and_from, and_parts, eq-eqb, eqb-true, or_right}
use Rattle.std.proofs.lemmas.Bool.Decides.{eqb_tells}
use Rattle.std.proofs.lemmas.List.Concat.{flat_map-append}
use Rattle.std.proofs.lemmas.List.{take_more}
use Rattle.pim_base.specs.Lists.{contains}
use Rattle.pim_fact_lines.specs.declared.line.Line.{Line}
use Rattle.pim_world.specs.Worlds.{World, no_world}
use Rattle.pim_world.specs.After.{after, set}
use Rattle.pim_rows.specs.declared.runs.RunChange.{RunChange}
use Rattle.pim_rows.specs.declared.runs.RunLevels.{RunLevels}
use Rattle.pim_rows.specs.Moments.{Moment, first_moments, now, clock, began, number, followed_by}
use Rattle.pim_rows.specs.Begun.{run_apart, are_levels, is_run_apart, RunStart, run_start}
use Rattle.pim_rows.specs.Begun.{run_start_at}
use Rattle.pim_rows.specs.Rows.{Row, row_text, ran_rows, ended_run, lasting_run, by_number, text_of}
use Rattle.pim_rows.specs.Runs.{AreRuns, AreChanges, levels_of, change_of, ended_by, with_begun}
use Rattle.pim_rows.specs.Runs.{all_ended, with_all, all_lasting}
use Rattle.pim_rows.proofs.Starting.{began_before, began_now, set_same, set_other}

-- ---- two levels

are_levels_same : (both : ℕ × ℕ) → are_levels both (Some both) ≡ true
are_levels_same both = and_from _ _ (eq-eqb both.0 both.0 refl) (eq-eqb both.1 both.1 refl)

are_levels_true :
    (both : ℕ × ℕ) (apart : Option (ℕ × ℕ))
    → are_levels both apart ≡ true
    → apart ≡ Some both
are_levels_true both None h = cc
are_levels_true both (Some other) h =
    let parts = and_parts (other.0 == both.0) (other.1 == both.1) h in
    let first : other.0 ≡ both.0 = eqb-true _ _ parts.0 in
    let second : other.1 ≡ both.1 = eqb-true _ _ parts.1 in
    let same : (other.0, other.1) ≡ (both.0, both.1) = cc in ap (λ (both : ℕ × ℕ). Some both) same

-- ---- lists

flat_map_filter :
    {A : Type 0} (f : ℕ → List A) (test : ℕ → Bool)
    → ((t : ℕ) → test t ≡ false → f t ≡ [])
    → (ts : List ℕ)
    → flat_map f (filter test ts) ≡ flat_map f ts
flat_map_filter f test none [] = refl
flat_map_filter {A = A} f test none (t ∷ ts) = go (test t) refl (flat_map_filter f test none ts)
  where
    go : (b : Bool) → test t ≡ b → flat_map f (filter test ts) ≡ flat_map f ts
        → flat_map f (if b then t ∷ filter test ts else filter test ts) ≡ f t ++ flat_map f ts
    go true e rest = ap (λ (rest : List A). f t ++ rest) rest
    go false e rest = rest ∙ ap (λ (first : List A). first ++ flat_map f ts) (sym (none t e))

module _ (m : Moment) (ms : List Moment) where
  -- ---- the rows

  -- the row of what ended is the one of what is kept
  ended_by-kept : (kept : ℕ → Option RunStart) (t : ℕ) → AreRuns kept ms
      → ended_by (kept t) m.world.clock m.number (run_apart (now ms) t) (run_apart m.world t)
      ≡ ended_run (m ∷ ms) ms t
  ended_by-kept kept t are = go (run_apart (now ms) t) (are t)
    where
      go : (apart : Option (ℕ × ℕ))
          → ((both : ℕ × ℕ) → apart ≡ Some both
          → kept t ≡ Some (run_start t both (began (is_run_apart t both) ms)))
          → ended_by (kept t) m.world.clock m.number apart (run_apart m.world t)
          ≡ option_map_or
          (λ both. if is_run_apart t both m.world then []
          else ran_rows (run_start t both (began (is_run_apart t both) ms)) m.world.clock m.number)
          apart
          []
      go None began = refl
      go (Some both) began =
          ap
          (λ start. if are_levels both (run_apart m.world t)
          then [] else option_map_or (λ s. ran_rows s m.world.clock m.number) start [])
          (began both refl)

  all_ended-kept : (kept : ℕ → Option RunStart) → AreRuns kept ms → (ts : List ℕ)
      → all_ended kept m.world.clock m.number (map (change_of (now ms) m.world) ts)
      ≡ flat_map (ended_run (m ∷ ms) ms) ts
  all_ended-kept kept are [] = refl
  all_ended-kept kept are (t ∷ ts) =
      ap (λ (rows : List Row). rows ++ all_ended kept m.world.clock m.number
      (map (change_of (now ms) m.world) ts)) (ended_by-kept kept t are)
      ∙ ap (λ (rows : List Row). ended_run (m ∷ ms) ms t ++ rows) (all_ended-kept kept are ts)

  -- nothing ends for a thread with the same levels
  none_ended : (t : ℕ) → run_apart m.world t ≡ run_apart (now ms) t → ended_run (m ∷ ms) ms t ≡ []
  none_ended t same = go (run_apart (now ms) t) same
    where
      go : (apart : Option (ℕ × ℕ)) → run_apart m.world t ≡ apart
          → option_map_or
          (λ both. if is_run_apart t both m.world then []
          else ran_rows (run_start t both (began (is_run_apart t both) ms)) m.world.clock m.number)
          apart
          []
          ≡ []
      go None e = refl
      go (Some both) e = rw (ap (are_levels both) e ∙ are_levels_same both) refl

  -- the rows of the changes are those of all threads
  rows_of_changes : (kept : ℕ → Option RunStart) (ts : List ℕ) (cs : List RunChange)
      → AreRuns kept ms → AreChanges (now ms) m.world ts cs
      → all_ended kept m.world.clock m.number cs
      ≡ flat_map (ended_run (m ∷ ms) ms) (by_number (now ms))
  rows_of_changes kept ts cs are changes =
      ap (all_ended kept m.world.clock m.number) changes.values
      ∙ all_ended-kept kept are ts
      ∙ ap (flat_map (ended_run (m ∷ ms) ms)) (sym changes.order)
      ∙ flat_map_filter (ended_run (m ∷ ms) ms)
      (contains ts) (λ t other. none_ended t (changes.others t other)) (by_number (now ms))

  -- ---- what is kept

  -- what is kept of t is of its levels before the line, or after it
  abbrev IsOld : (ℕ → Option RunStart) → ℕ → Type 0
  IsOld kept t =
      (both : ℕ × ℕ) → run_apart (now ms) t ≡ Some both
      → kept t ≡ Some (run_start t both (began (is_run_apart t both) ms))

  abbrev IsNew : (ℕ → Option RunStart) → ℕ → Type 0
  IsNew kept t =
      (both : ℕ × ℕ) → run_apart m.world t ≡ Some both
      → kept t ≡ Some (run_start t both (began (is_run_apart t both) (m ∷ ms)))

  goes_on :
      (kept : ℕ → Option RunStart) (t : ℕ) (both : ℕ × ℕ)
      → IsOld kept t
      → run_apart (now ms) t ≡ Some both
      → kept t ≡ Some (run_start t both (began (is_run_apart t both) (m ∷ ms)))
  goes_on kept t both old e =
      old both e
      ∙ ap (λ s. Some (run_start t both s)) (sym
      (began_before (is_run_apart t both) m ms (ap (are_levels both) e ∙ are_levels_same both)))

  stays :
      (kept : ℕ → Option RunStart) (t : ℕ)
      → run_apart m.world t ≡ run_apart (now ms) t
      → IsOld kept t
      → IsNew kept t
  stays kept t same old both e = goes_on kept t both old (sym same ∙ e)

  abbrev step : (ℕ → Option RunStart) → ℕ → ℕ → Option RunStart
  step kept u = with_begun m.world m.number kept u (run_apart (now ms) u) (run_apart m.world u)

  -- what begins for t is kept, or what lasts was
  step_at : (kept : ℕ → Option RunStart) (t : ℕ)
      → ((both : ℕ × ℕ) → run_apart m.world t ≡ Some both → run_apart (now ms) t ≡ Some both
      → kept t ≡ Some (run_start t both (began (is_run_apart t both) (m ∷ ms))))
      → IsNew (step kept t) t
  step_at kept t lasts both e = rw e (go (are_levels both (run_apart (now ms) t)) refl)
    where
      go : (b : Bool) → are_levels both (run_apart (now ms) t) ≡ b
          → (if b then kept else set t (Some (run_start_at t m.number both m.world)) kept) t
          ≡ Some (run_start t both (began (is_run_apart t both) (m ∷ ms)))
      go true h = lasts both e (are_levels_true both _ h)
      go false h =
          set_same t (Some (run_start_at t m.number both m.world)) kept
          ∙ ap (λ s. Some (run_start t both s)) (sym (began_now (is_run_apart t both) m ms h))

  step_else : (kept : ℕ → Option RunStart) (t u : ℕ) → u ≢ t → step kept u t ≡ kept t
  step_else kept t u ne = go (run_apart m.world u)
    where
      at_levels :
          (both : ℕ × ℕ) (b : Bool)
          → (if b then kept else set u (Some (run_start_at u m.number both m.world)) kept) t
          ≡ kept t
      at_levels both true = refl
      at_levels both false = set_other u t (Some (run_start_at u m.number both m.world)) kept ne

      go :
          (apart : Option (ℕ × ℕ))
          → with_begun m.world m.number kept u (run_apart (now ms) u) apart t ≡ kept t
      go None = refl
      go (Some both) = at_levels both (are_levels both (run_apart (now ms) u))

  step_new : (kept : ℕ → Option RunStart) (t u : ℕ) → IsNew kept t → IsNew (step kept u) t
  step_new kept t u new = elim (eqb_tells t u) [
    | inl (_, same) ↦
        subst (λ (u : ℕ). IsNew (step kept u) t) same (step_at kept t (λ both e before. new both e))
    | inr (_, ne) ↦ λ both e. step_else kept t u (λ back. ne (sym back)) ∙ new both e
  ]

  abbrev steps : (ℕ → Option RunStart) → List ℕ → ℕ → Option RunStart
  steps kept ts = with_all m.world m.number kept (map (change_of (now ms) m.world) ts)

  steps_new :
      (t : ℕ) (ts : List ℕ) (kept : ℕ → Option RunStart)
      → IsNew kept t
      → IsNew (steps kept ts) t
  steps_new t [] kept new = new
  steps_new t (u ∷ ts) kept new = steps_new t ts (step kept u) (step_new kept t u new)

  steps_old :
      (t : ℕ) (ts : List ℕ) (kept : ℕ → Option RunStart)
      → contains ts t ≡ true
      → IsOld kept t
      → IsNew (steps kept ts) t
  steps_old t [] kept among old = absurd (let no : false ≡ true = among in cc)
  steps_old t (u ∷ ts) kept among old = elim (eqb_tells t u) [
    | inl (_, same) ↦
        steps_new t ts (step kept u)
        (subst (λ (u : ℕ). IsNew (step kept u) t) same
        (step_at kept t (λ both e before. goes_on kept t both old before)))
    | inr (differs, ne) ↦
        steps_old t ts (step kept u) (rw differs at among)
        (λ both e. step_else kept t u (λ back. ne (sym back)) ∙ old both e)
  ]

  kept_of_changes : (old new : ℕ → Option RunStart) (ts : List ℕ) (cs : List RunChange)
      → AreRuns old ms → AreChanges (now ms) m.world ts cs → new ≡ with_all m.world m.number old cs
      → AreRuns new (m ∷ ms)
  kept_of_changes old new ts cs are changes e t both now_apart =
      ap (λ (kept : ℕ → Option RunStart). kept t)
      (e ∙ ap (with_all m.world m.number old) changes.values)
      ∙ go (contains ts t) refl both now_apart
    where
      go : (b : Bool) → contains ts t ≡ b → IsNew (steps old ts) t
      go true h = steps_old t ts old h (are t)
      go false h = steps_new t ts old (stays old t (changes.others t h) (are t))

-- ---- what lasts, and the first moments

lasting-kept : (ms : List Moment) (kept : ℕ → Option RunStart) (t : ℕ) → AreRuns kept ms
    → ended_by (kept t) (clock ms) 0 (run_apart (now ms) t) None ≡ lasting_run ms t
lasting-kept ms kept t are = go (run_apart (now ms) t) (are t)
  where
    go : (apart : Option (ℕ × ℕ))
        → ((both : ℕ × ℕ)
        → apart ≡ Some both → kept t ≡ Some (run_start t both (began (is_run_apart t both) ms)))
        → ended_by (kept t) (clock ms) 0 apart None
        ≡ option_map_or (λ both.
        ran_rows (run_start t both (began (is_run_apart t both) ms)) (clock ms) 0) apart []
    go None began = refl
    go (Some both) began =
        ap (λ start. option_map_or (λ s. ran_rows s (clock ms) 0) start []) (began both refl)

all_lasting-kept : (ms : List Moment) (kept : ℕ → Option RunStart) → AreRuns kept ms → (ts : List ℕ)
    → all_lasting kept (clock ms) (map (levels_of (now ms)) ts) ≡ flat_map (lasting_run ms) ts
all_lasting-kept ms kept are [] = refl
all_lasting-kept ms kept are (t ∷ ts) =
    ap (λ (rows : List Row). rows ++ all_lasting kept (clock ms) (map (levels_of (now ms)) ts))
    (lasting-kept ms kept t are)
    ∙ ap (λ (rows : List Row). lasting_run ms t ++ rows) (all_lasting-kept ms kept are ts)

pub none_at_first : (t : ℕ) → run_apart no_world t ≡ None
none_at_first zero = refl
none_at_first (suc t) = refl

pub runs_at_first : (kept : ℕ → Option RunStart) → AreRuns kept first_moments
runs_at_first kept t both e = absurd (let no : None ≡ Some both = sym (none_at_first t) ∙ e in cc)

-- ---- which changes

and_false : (a b : Bool) → b ≡ false → (a && b) ≡ b
and_false true b h = refl
and_false false b h = sym h

contains-filter :
    (test : ℕ → Bool) (t : ℕ) (ts : List ℕ)
    → contains (filter test ts) t ≡ (contains ts t && test t)
contains-filter test t [] = refl
contains-filter test t (u ∷ us) = go (test u) refl (contains-filter test t us)
  where
    go : (b : Bool) → test u ≡ b → contains (filter test us) t ≡ (contains us t && test t)
        → contains (if b then u ∷ filter test us else filter test us) t
        ≡ (contains (u ∷ us) t && test t)
    go true e rest = elim (eqb_tells t u) [
      | inl (h, same) ↦ rw h (sym (ap test same ∙ e))
      | inr (h, _) ↦ rw h rest
    ]
    go false e rest = elim (eqb_tells t u) [
      | inl (h, same) ↦ rw h (rest ∙ and_false (contains us t) (test t) (ap test same ∙ e))
      | inr (h, _) ↦ rw h rest
    ]

pub same_filter :
    (p q : ℕ → Bool) (ts : List ℕ)
    → ((t : ℕ) → contains ts t ≡ true → p t ≡ q t)
    → filter p ts ≡ filter q ts
same_filter p q [] same = refl
same_filter p q (u ∷ us) same =
    let here : p u ≡ q u = same u (rw (eq-eqb u u refl) refl) in
    let rest : filter p us ≡ filter q us =
    same_filter p q us (λ t h. same t (or_right (t == u) (contains us t) h)) in
    ap (λ b. if b then u ∷ filter p us else filter p us) here
    ∙ ap (λ rest. if q u then u ∷ rest else rest) rest

-- a part of a list, in its order, has what of the list is in the part
pub filter-contains :
    (test : ℕ → Bool) (ts : List ℕ)
    → filter (contains (filter test ts)) ts ≡ filter test ts
filter-contains test ts =
    same_filter (contains (filter test ts)) test ts
    (λ t h. contains-filter test t ts ∙ ap (λ b. b && test t) h)

pub filter-itself : (ts : List ℕ) → filter (contains ts) ts ≡ ts
filter-itself ts = same_filter (contains ts) (λ t. true) ts (λ t h. h) ∙ filter-all ts
  where
    filter-all : (ts : List ℕ) → filter (λ t. true) ts ≡ ts
    filter-all [] = refl
    filter-all (t ∷ ts) = ap (λ (ts : List ℕ). t ∷ ts) (filter-all ts)

pub filter-none : (ts : List ℕ) → filter (contains []) ts ≡ []
filter-none [] = refl
filter-none (t ∷ ts) = filter-none ts

and_parted : (a b : Bool) → (a && b) ≡ false → (a ≡ false) ⊎ (b ≡ false)
and_parted true b h = inr h
and_parted false b h = inl refl

-- only those of these threads that there are, in the order of their numbers
pub changes_in_order : (w after : World) (us : List ℕ) (cs : List RunChange)
    → cs ≡ map (change_of w after) (filter (contains us) (by_number w))
    → ((t : ℕ) → contains us t ≡ false → run_apart after t ≡ run_apart w t)
    → ((t : ℕ) → contains (by_number w) t ≡ false → run_apart after t ≡ run_apart w t)
    → AreChanges w after (filter (contains us) (by_number w)) cs
changes_in_order w after us cs values others undeclared = record {
  values = values;
  others = λ t other.
      elim (and_parted (contains (by_number w) t)
      (contains us t) (sym (contains-filter (contains us) t (by_number w)) ∙ other)) [
        | inl no_thread ↦ undeclared t no_thread
        | inr another ↦ others t another
      ];
  order = filter-contains (contains us) (by_number w);
}

-- no levels change
pub no_changes :
    (w after : World)
    → ((t : ℕ) → run_apart after t ≡ run_apart w t)
    → AreChanges w after [] []
no_changes w after same =
    record { values = refl; others = λ t other. same t; order = filter-none (by_number w) }

-- ---- in the code

-- a loop has appended the rows of one item more
pub more_rows : {C : Type 0}
    (of : C → List Row) (cs : List C) (i : ℕ) (c : C) (out old new : List ℕ)
    → i < length cs → c ≡ get_or cs i c
    → old ≡ out ++ text_of (flat_map of (take i cs)) → new ≡ old ++ text_of (of c)
    → new ≡ out ++ text_of (flat_map of (take (i + 1) cs))
more_rows {C = C} of cs i c out old new h is before added =
    let more : flat_map of (take (i + 1) cs) ≡ flat_map of (take i cs) ++ of c =
    ap (flat_map of) (take_more cs i c h)
    ∙ ap (λ (c : C). flat_map of (take i cs ++ c ∷ [])) (sym is)
    ∙ flat_map-append of (take i cs) (c ∷ [])
    ∙ ap (λ (last : List Row). flat_map of (take i cs) ++ last) (append-nil (of c)) in
    added
    ∙ ap (λ (text : List ℕ). text ++ text_of (of c)) before
    ∙ append_assoc out _ _
    ∙ ap (λ (text : List ℕ). out ++ text)
    (sym (ap text_of more ∙ flat_map-append row_text (flat_map of (take i cs)) (of c)))

module _ (ms : List Moment) (l : Line)
    (w : World) (line : ℕ) (old new : ℕ → Option RunStart) (ts : List ℕ) (cs : List RunChange)
    (is_after : w ≡ after (now ms) l)
    (is_next : line ≡ number ms + 1) (changes : AreChanges (now ms) (after (now ms) l) ts cs)
    (are : AreRuns old ms) where
  abbrev moment : Moment
  moment = record { number = number ms + 1; line = l; world = after (now ms) l }

  -- the rows that the code appends
  pub text_followed :
      (time : ℕ) (before text : List ℕ)
      → time ≡ w.clock
      → text ≡ before ++ text_of (all_ended old time line cs)
      → text ≡ before ++ text_of (flat_map (ended_run (followed_by ms l) ms) (by_number (now ms)))
  text_followed time before text is_clock e =
      let rows : all_ended old time line cs
      ≡ all_ended old (after (now ms) l).clock (number ms + 1) cs =
      ap (λ time. all_ended old time line cs) (is_clock ∙ ap (λ (w : World). w.clock) is_after)
      ∙ ap (λ line. all_ended old (after (now ms) l).clock line cs) is_next in
      e ∙ ap (λ (rows : List Row). before ++ text_of rows)
      (rows ∙ rows_of_changes moment ms old ts cs are changes)

  -- what the code keeps
  pub kept_followed : new ≡ with_all w line old cs → AreRuns new (followed_by ms l)
  kept_followed e =
      kept_of_changes moment ms old new ts cs are changes
      (e ∙ ap (λ (w : World). with_all w line old cs) is_after
      ∙ ap (λ line. with_all (after (now ms) l) line old cs) is_next)

pub text_lasting : (ms : List Moment)
    (kept : ℕ → Option RunStart) (w : World) (ls : List RunLevels) (time : ℕ) (before text : List ℕ)
    → w ≡ now ms → ls ≡ map (levels_of (now ms)) (by_number (now ms)) → AreRuns kept ms
    → time ≡ w.clock → text ≡ before ++ text_of (all_lasting kept time ls)
    → text ≡ before ++ text_of (flat_map (lasting_run ms) (by_number (now ms)))
text_lasting ms kept w ls time before text is_now levels are is_clock e =
    e
    ∙ ap (λ (rows : List Row). before ++ text_of rows)
    (ap (λ time. all_lasting kept time ls) (is_clock ∙ ap (λ (w : World). w.clock) is_now)
    ∙ ap (all_lasting kept (clock ms)) levels
    ∙ all_lasting-kept ms kept are (by_number (now ms)))
