-- Waits that are kept by place, as they go on one after another, and by a line.
use Rattle.std.proofs.Common.{◌≡◌, ◌≢◌, ◌≤◌, ◌<◌, ◌+◌, ◌-◌, ◌⊎◌, ℕ, suc, Bool, true, false, not}
use Rattle.std.proofs.Common.{◌&&◌, ◌||◌, List, [], length, take, Option, Some, None, refl, sym}
use Rattle.std.proofs.Common.{◌∙◌, ap, subst, inl, inr, arith, set, get_or, add-one, unwrap_or}
use Rattle.std.proofs.Common.{is_some, if◌then◌else◌}
use Rattle.std.proofs.lemmas.Option.{same_Some}
use Rattle.std.specs.Prelude.{◌==◌}
use Rattle.std.proofs.lemmas.Bool.{eq-eqb}
use Rattle.std.proofs.lemmas.Bool.Decides.{eqb_tells}
use Rattle.pim_base.specs.Lists.{nth, contains}
use Rattle.pim_base.proofs.Places.{nth-get_or, nth-put_same, nth-put_other}
use Rattle.std.specs.Option.{option_map}
use Rattle.pim_base.specs.declared.steps.Wait.{Wait}
use Rattle.pim_waits.specs.Model.{wait_for}
use Rattle.pim_fact_lines.specs.declared.line.Line.{Line}
use Rattle.pim_world.specs.Worlds.{World}
use Rattle.pim_world.specs.After.{after}
use Rattle.pim_rows.specs.Moments.{Moment, now, number, followed_by, clock}
use Rattle.pim_world.specs.Standing.{standing, waits}
use Rattle.pim_rows.specs.Tallies.{Tally, tally}
use Rattle.pim_rows.specs.Found.{actor}
use Rattle.pim_rows.specs.OpenWaits.{Follows, IsUntil, ShowsWait, Begins, Renews}
use Rattle.pim_rows.specs.AllOpen.{AreOpen, AreUntil, AreSame, AreCurrent, GoneOn, GoneOnAt}
use Rattle.pim_rows.specs.AllOpen.{EndedAt, BegunAt, SameBut, SoFar, open_at, ended_times}
use Rattle.pim_rows.specs.declared.open_wait.OpenWait.{OpenWait}
use Rattle.pim_rows.proofs.Clock.{clock-le-after}
use Rattle.pim_rows.proofs.Frames.{wait-after}
use Rattle.pim_rows.proofs.InOrder.{contains_more}
use Rattle.pim_rows.proofs.Waiting.{IsUntil-later, Follows-same}

pub at_index :
    {X : Type 0} (xs : List X) (i : ℕ) (x d : X)
    → d ≡ get_or xs i d
    → d ≡ x
    → i < length xs
    → nth xs (i + 1) ≡ Some x
at_index xs i x d e is h = nth-get_or xs (i + 1) i d refl h ∙ ap Some (sym e ∙ is)

pub set_here :
    {X : Type 0} (xs : List X) (i : ℕ) (x : X)
    → i < length xs
    → nth (set xs i x) (i + 1) ≡ Some x
set_here xs i x h = rw (add-one i) (nth-put_same xs (suc i) x (omega arith) (omega arith))

pub set_else :
    {X : Type 0} (xs : List X) (i t : ℕ) (x : X)
    → t ≢ i + 1
    → nth (set xs i x) t ≡ nth xs t
set_else xs i t x ne = nth-put_other xs (suc i) t x (λ e. ne (sym e ∙ sym (add-one i)))

-- ---- one after another

-- what went on by a line goes on no more by it
gone_twice :
    (w : World) (t : ℕ) (x y z : Option (Option OpenWait))
    → GoneOnAt w t x y
    → GoneOnAt w t y z
    → GoneOnAt w t x z
gone_twice w t None None None first second = tt
gone_twice w t None None (Some new) first second = absurd second
gone_twice w t None (Some mid) z first second = absurd first
gone_twice w t (Some old) None z first second = absurd first
gone_twice w t (Some old) (Some mid) None first second = absurd second
gone_twice w t (Some None) (Some None) (Some None) first second = tt
gone_twice w t (Some None) (Some None) (Some (Some new)) first second = absurd second
gone_twice w t (Some None) (Some (Some mid)) (Some z) first second = absurd first
gone_twice w t (Some (Some old)) (Some None) (Some z) first second = absurd first
gone_twice w t (Some (Some old)) (Some (Some mid)) (Some None) first second = absurd second
gone_twice w t (Some (Some old)) (Some (Some mid)) (Some (Some new)) first second =
    let P : OpenWait → Type 0 = λ new. Renews old new w.clock (standing w t) in
    subst P (sym (second.again first.current)) first

-- what went on is of no later time
gone_until :
    (w : World) (t : ℕ) (x y : Option (Option OpenWait)) (o : OpenWait)
    → GoneOnAt w t x y
    → y ≡ Some (Some o)
    → IsUntil w.clock o
gone_until w t x None o gone e = cc
gone_until w t x (Some None) o gone e = cc
gone_until w t None (Some (Some p)) o gone e = absurd gone
gone_until w t (Some None) (Some (Some p)) o gone e = absurd gone
gone_until w t (Some (Some old)) (Some (Some p)) o gone e =
    let same : p ≡ o = same_Some p o (same_Some (Some p) (Some o) e) in
    let P : OpenWait → Type 0 = λ p. IsUntil w.clock p in
    subst P same gone.until

-- what needs no change has gone on
gone_same : (w : World) (t : ℕ) (x : Option (Option OpenWait))
    → ((o : OpenWait) → x ≡ Some (Some o) → (o.standing ≡ standing w t) × IsUntil w.clock o)
    → GoneOnAt w t x x
gone_same w t None is = tt
gone_same w t (Some None) is = tt
gone_same w t (Some (Some o)) is =
    let both = is o refl in
    record {
      goes = λ u ms m follows later shows.
          Follows-same o u ms m follows later shows.lasts
          (shows.current ∙ sym both.0 ∙ sym follows.current);
      current = both.0;
      again = λ e. refl;
      until = both.1;
    }

module _ (w : World) (old : List (Option OpenWait)) where
  pub so_far_none : SoFar w [] old old
  so_far_none =
      record {
        len = refl;
        done = λ t h. absurd (let no : false ≡ true = h in cc);
        left = λ t h. refl;
      }

  pub so_far_next :
      (ts : List ℕ) (now next : List (Option OpenWait)) (i x : ℕ)
      → i < length ts
      → x ≡ get_or ts i x
      → SoFar w (take i ts) old now
      → GoneOnAt w x (nth now x) (nth next x)
      → ((t : ℕ) → t ≢ x → nth next t ≡ nth now t)
      → length next ≡ length now → SoFar w (take (i + 1) ts) old next
  so_far_next ts now next i x h is so here others len = record {
    len = len ∙ so.len;
    done = λ t among. elim (eqb_tells t x) [
      | inl (_, e) ↦ let P : ℕ → Type 0 =
          λ t. GoneOnAt w t (nth old t) (nth next t) in subst P (sym e) again
      | inr (differs, ne) ↦
          let P : Option (Option OpenWait) → Type 0 = λ y. GoneOnAt w t (nth old t) y in
          subst P (sym (others t ne)) (so.done t (or_first (contains (take i ts) t)
          (t == x) differs (sym (contains_more ts i x t h is) ∙ among)))
    ];
    left = λ t out.
        let parts = or_neither
        (contains (take i ts) t) (t == x) (sym (contains_more ts i x t h is) ∙ out) in
        others t (λ e. let no : false ≡ true = sym parts.1 ∙ eq-eqb t x e in cc)
        ∙ so.left t parts.0;
  }
    where
      or_first : (a b : Bool) → b ≡ false → (a || b) ≡ true → a ≡ true
      or_first true b h e = refl
      or_first false b h e = absurd (let no : false ≡ true = sym h ∙ e in cc)

      or_neither : (a b : Bool) → (a || b) ≡ false → (a ≡ false) × (b ≡ false)
      or_neither true b e = absurd (let no : true ≡ false = e in cc)
      or_neither false b e = (refl, e)

      before : (b : Bool) → contains (take i ts) x ≡ b → GoneOnAt w x (nth old x) (nth next x)
      before true among = gone_twice w x (nth old x) (nth now x) (nth next x) (so.done x among) here
      before false out =
          let P : Option (Option OpenWait) → Type 0 =
          λ y. GoneOnAt w x y (nth next x) in subst P (so.left x out) here

      again : GoneOnAt w x (nth old x) (nth next x)
      again = before (contains (take i ts) x) refl

  pub so_far_until :
      (ts : List ℕ) (now : List (Option OpenWait))
      → SoFar w ts old now
      → AreUntil w.clock old
      → AreUntil w.clock now
  so_far_until ts now so until t o e = go (contains ts t) refl
    where
      go : (b : Bool) → contains ts t ≡ b → IsUntil w.clock o
      go true among = gone_until w t (nth old t) (nth now t) o (so.done t among) e
      go false out = until t o (sym (so.left t out) ∙ e)

  pub so_far_all :
      (ts : List ℕ) (new : List (Option OpenWait))
      → SoFar w ts old new
      → AreUntil w.clock old
      → AreCurrent w ts old
      → (t : ℕ) → GoneOnAt w t (nth old t) (nth new t)
  so_far_all ts new so until current t = go (contains ts t) refl
    where
      go : (b : Bool) → contains ts t ≡ b → GoneOnAt w t (nth old t) (nth new t)
      go true among = so.done t among
      go false out =
          let P : Option (Option OpenWait) → Type 0 = λ y. GoneOnAt w t (nth old t) y in
          subst P (sym (so.left t out))
          (gone_same w t (nth old t) (λ o e. (current t o e out, until t o e)))

-- taking one out leaves the others as they are
pub current_but :
    (w : World) (ts : List ℕ) (old mid : List (Option OpenWait)) (t : ℕ)
    → open_at mid t ≡ None
    → ((n : ℕ) → n ≢ t → nth mid n ≡ nth old n) → AreCurrent w ts old → AreCurrent w ts mid
current_but w ts old mid t none others current n o e out = elim (eqb_tells n t) [
  | inl (_, same) ↦
      absurd (let f : None ≡ Some o = sym none
      ∙ ap (open_at mid) (sym same) ∙ ap (λ o. unwrap_or o None) e in cc)
  | inr (_, ne) ↦ current n o (sym (others n ne) ∙ e) out
]

-- ---- one place

pub before_place : (n : ℕ) → n ≢ 0 → n - 1 + 1 ≡ n
before_place n pos = omega (arith, pos)

pub get_place :
    {X : Type 0} (xs : List X) (n : ℕ) (d : X)
    → n ≢ 0
    → n ≤ length xs
    → nth xs n ≡ Some (get_or xs (n - 1) d)
get_place xs n d pos h = let e = before_place n pos in nth-get_or xs n (n - 1) d e (omega arith)

pub set_place :
    {X : Type 0} (xs : List X) (n : ℕ) (x : X)
    → n ≢ 0
    → n ≤ length xs
    → nth (set xs (n - 1) x) n ≡ Some x
set_place xs n x pos h =
    let e = before_place n pos in
    subst (λ k. nth (set xs (n - 1) x) k ≡ Some x) e (set_here xs (n - 1) x (omega arith))

pub set_but :
    {X : Type 0} (xs : List X) (n t : ℕ) (x : X)
    → n ≢ 0
    → t ≢ n
    → nth (set xs (n - 1) x) t ≡ nth xs t
set_but xs n t x pos ne = set_else xs (n - 1) t x (λ e. ne (e ∙ before_place n pos))

-- ---- what is kept

pub open_kept :
    (opens : List (Option OpenWait)) (t : ℕ) (w : OpenWait)
    → nth opens t ≡ Some (Some w)
    → open_at opens t ≡ Some w
open_kept opens t w e = ap (λ o. unwrap_or o None) e

-- a wait that is kept in this place from now on
pub begun_in :
    (w : World) (xs : List (Option OpenWait)) (t n : ℕ) (o : OpenWait)
    → n ≡ t
    → 1 ≤ t
    → n ≤ length xs
    → Begins o w.clock (standing w t)
    → BegunAt w t (open_at (set xs (n - 1) (Some o)) t)
begun_in w xs t n o e pos h begins =
    let P : Option OpenWait → Type 0 = λ x. BegunAt w t x in
    let here : open_at (set xs (n - 1) (Some o)) n ≡ Some o =
    ap (λ o. unwrap_or o None) (set_place xs n (Some o) (λ z. omega arith) h) in
    subst P (sym (ap (open_at (set xs (n - 1) (Some o))) (sym e) ∙ here)) begins

pub same_but :
    (xs : List (Option OpenWait)) (t n k : ℕ) (x : Option OpenWait)
    → n ≡ t
    → 1 ≤ t
    → k ≢ t
    → open_at (set xs (n - 1) x) k ≡ open_at xs k
same_but xs t n k x e pos ne =
    ap (λ o. unwrap_or o None) (set_but xs n k x (λ z. omega arith) (λ h. ne (h ∙ e)))

-- a thread waits if something is awaited
pub waits-shown :
    (o : Option ℕ) (x : Option Wait) (b : Bool)
    → option_map wait_for o ≡ x
    → is_some o ≡ b
    → is_some x ≡ b
waits-shown None x b e h = ap is_some (sym e) ∙ h
waits-shown (Some m) x b e h = ap is_some (sym e) ∙ h

module _ (w : World) (t : ℕ) where
  pub gone_at :
      (x y : Option (Option OpenWait))
      → GoneOnAt w t x y
      → GoneOn w t (unwrap_or x None) (unwrap_or y None)
  gone_at None None g = tt
  gone_at None (Some new) g = absurd g
  gone_at (Some old) None g = absurd g
  gone_at (Some old) (Some new) g = g

  -- what goes on was kept
  went_on :
      (x y : Option OpenWait) (o : OpenWait)
      → GoneOn w t x y
      → y ≡ Some o
      → (p : OpenWait) × (x ≡ Some p) × Renews p o w.clock (standing w t)
  went_on None None o g e = cc
  went_on None (Some new) o g e = absurd g
  went_on (Some old) None o g e = absurd g
  went_on (Some old) (Some new) o g e =
      let P : OpenWait → Type 0 = λ o. Renews old o w.clock (standing w t) in
      (old, refl, subst P (same_Some new o e) g)

  -- what was kept goes on
  goes_on :
      (x y : Option OpenWait) (p : OpenWait)
      → GoneOn w t x y
      → x ≡ Some p
      → (o : OpenWait) × (y ≡ Some o)
  goes_on None None p g e = cc
  goes_on None (Some new) p g e = absurd g
  goes_on (Some old) None p g e = absurd g
  goes_on (Some old) (Some new) p g e = (new, refl)

  -- what isn't kept doesn't go on
  pub none_on : (x y : Option OpenWait) → GoneOn w t x y → x ≡ None → y ≡ None
  none_on None None g e = refl
  none_on None (Some new) g e = absurd g
  none_on (Some old) y g e = cc

  begun_at :
      (x : Option OpenWait)
      → BegunAt w t x
      → (o : OpenWait) × (x ≡ Some o) × Begins o w.clock (standing w t)
  begun_at None b = absurd b
  begun_at (Some new) b = (new, refl, b)

-- ---- a line

-- no wait is kept of a later time, now or after a line more
pub until_after :
    (opens : List (Option OpenWait)) (ms : List Moment) (l : Line)
    → AreOpen opens ms
    → AreUntil (after (now ms) l).clock opens
until_after opens ms l are t w e =
    IsUntil-later w (clock ms) (after (now ms) l).clock
    (clock-le-after (now ms) l) (are.each t w (open_kept opens t w e)).until

-- taking one out leaves none of a later time
pub until_but :
    (clock : ℕ) (old mid : List (Option OpenWait)) (t : ℕ)
    → open_at mid t ≡ None
    → ((n : ℕ) → n ≢ t → nth mid n ≡ nth old n)
    → AreUntil clock old
    → AreUntil clock mid
until_but clock old mid t none others until n w e = elim (eqb_tells n t) [
  | inl (_, same) ↦ absurd
      (let f : None ≡ Some w = sym none ∙ ap (open_at mid) (sym same) ∙ open_kept mid n w e in cc)
  | inr (_, ne) ↦ until n w (sym (others n ne) ∙ e)
]

and-true : (a b : Bool) → b ≡ true → (a && b) ≡ a
and-true true b e = e
and-true false b e = refl

module _ (ms : List Moment) (l : Line) (w : World) (is_after : w ≡ after (now ms) l) where
  abbrev next : Moment
  next = record { number = number ms + 1; line = l; world = after (now ms) l }

  -- the wait of t goes on, if it waits
  abbrev pub Goes : (old new : List (Option OpenWait)) → ℕ → Type 0
  Goes old new t = (waits t w ≡ waits t (now ms)) × GoneOn w t (open_at old t) (open_at new t)

  -- t doesn't wait any more
  abbrev pub Ends : (new : List (Option OpenWait)) → ℕ → Type 0
  Ends new t = (waits t w ≡ false) × (open_at new t ≡ None)

  -- t waits from this line on
  abbrev pub Starts : (new : List (Option OpenWait)) → ℕ → Type 0
  Starts new t = (waits t (now ms) ≡ false) × (waits t w ≡ true) × BegunAt w t (open_at new t)

  abbrev pub Steps : (old new : List (Option OpenWait)) → ℕ → Type 0
  Steps old new t = Goes old new t ⊎ (Ends new t ⊎ Starts new t)

  shows : (t : ℕ) → waits t w ≡ true → ShowsWait next t w.clock (standing w t)
  shows t lasts = record {
    lasts = ap (waits t) (sym is_after) ∙ lasts;
    at = ap (λ (w : World). w.clock) (sym is_after);
    current = ap (λ (w : World). standing w t) (sym is_after);
  }

  each_followed :
      (old new : List (Option OpenWait)) (t : ℕ)
      → Steps old new t
      → AreOpen old ms
      → (o : OpenWait)
      → open_at new t ≡ Some o
      → Follows o t (followed_by ms l)
  each_followed old new t (inl (same, gone)) are o e =
      let before = went_on w t (open_at old t) (open_at new t) o gone e in
      let follows = are.each t before.0 before.1 in
      before.2.goes t ms next follows (clock-le-after (now ms) l) (shows t (same ∙ follows.lasts))
  each_followed old new t (inr (inl (ends, none))) are o e =
      absurd (let f : None ≡ Some o = sym none ∙ e in cc)
  each_followed old new t (inr (inr (before, lasts, begun))) are o e =
      let b = begun_at w t (open_at new t) begun in
      let P : OpenWait → Type 0 = λ o. Follows o t (followed_by ms l) in
      subst P (same_Some b.0 o (sym b.1 ∙ e)) (b.2 t ms next before (shows t lasts))

  all_followed :
      (old new : List (Option OpenWait)) (t : ℕ)
      → Steps old new t
      → AreOpen old ms
      → waits t w ≡ true
      → (o : OpenWait) × (open_at new t ≡ Some o)
  all_followed old new t (inl (same, gone)) are lasts =
      let before = are.all t (sym same ∙ lasts) in
      goes_on w t (open_at old t) (open_at new t) before.0 gone before.1
  all_followed old new t (inr (inl (ends, none))) are lasts =
      absurd (let e : false ≡ true = sym ends ∙ lasts in cc)
  all_followed old new t (inr (inr (before, is, begun))) are lasts =
      let b = begun_at w t (open_at new t) begun in (b.0, b.1)

  opens_followed :
      (old new : List (Option OpenWait))
      → ((t : ℕ) → Steps old new t)
      → AreOpen old ms
      → AreOpen new (followed_by ms l)
  opens_followed old new steps are = record {
    each = λ t. each_followed old new t (steps t) are;
    all = λ t h. all_followed old new t (steps t) are (ap (waits t) is_after ∙ h);
  }

  others_wait :
      (t : ℕ)
      → ((j : ℕ) → actor (now ms) l ≡ Some j → j ≢ t)
      → waits t w ≡ waits t (now ms)
  others_wait t others = ap (waits t) is_after ∙ ap is_some (wait-after l t (now ms) others)

  -- what is kept of a thread of which the same holds is what holds of it now
  pub current_after :
      (ts : List ℕ) (old : List (Option OpenWait))
      → AreSame (now ms) (after (now ms) l) ts
      → AreOpen old ms
      → AreCurrent w ts old
  current_after ts old same are t o e out =
      let follows = are.each t o (open_kept old t o e) in
      sym follows.current
      ∙ sym (same t follows.lasts out) ∙ ap (λ (w : World). standing w t) (sym is_after)

  -- a line of no thread
  pub opens_kept :
      (old new : List (Option OpenWait))
      → None ≡ actor (now ms) l
      → ((t : ℕ) → GoneOnAt w t (nth old t) (nth new t))
      → AreOpen old ms
      → AreOpen new (followed_by ms l)
  opens_kept old new none gone are =
      opens_followed old new
      (λ t. inl (
        others_wait t (λ j is. absurd (let e : None ≡ Some j = none ∙ is in cc)),
        gone_at w t (nth old t) (nth new t) (gone t),
      )) are

  -- a line of t
  pub opens_stepped :
      (old new : List (Option OpenWait)) (t : ℕ)
      → Some t ≡ actor (now ms) l
      → ((n : ℕ) → n ≢ t → GoneOn w n (open_at old n) (open_at new n))
      → Steps old new t
      → AreOpen old ms
      → AreOpen new (followed_by ms l)
  opens_stepped old new t is_t gone step are =
      opens_followed old new
      (λ n. elim (eqb_tells n t) [
        | inl (_, e) ↦ let P : ℕ → Type 0 = λ n. Steps old new n in subst P (sym e) step
        | inr (_, ne) ↦ inl
            (others_wait n (λ j is_j e. ne (sym e ∙ sym (same_Some t j (is_t ∙ is_j)))), gone n ne)
      ]) are

  -- the wait of t ends: what is kept of it is taken out before the others go on
  pub opens_ended :
      (old mid new : List (Option OpenWait)) (t : ℕ)
      → Some t ≡ actor (now ms) l
      → waits t w ≡ false
      → open_at mid t ≡ None
      → ((n : ℕ) → n ≢ t → nth mid n ≡ nth old n)
      → ((n : ℕ) → GoneOnAt w n (nth mid n) (nth new n))
      → AreOpen old ms
      → AreOpen new (followed_by ms l)
  opens_ended old mid new t is_t ends none others gone are =
      opens_stepped old new t is_t
      (λ n ne. let P : Option (Option OpenWait) → Type 0 =
      λ x. GoneOn w n (unwrap_or x None) (open_at new n) in
      subst P (others n ne) (gone_at w n (nth mid n) (nth new n) (gone n)))
      (inr (inl (
        ends,
        none_on w t
            (open_at mid t) (open_at new t) (gone_at w t (nth mid t) (nth new t) (gone t)) none,
      ))) are

  -- t waits as before
  pub opens_lasting :
      (old new : List (Option OpenWait)) (t : ℕ)
      → Some t ≡ actor (now ms) l
      → waits t w ≡ waits t (now ms)
      → ((n : ℕ) → GoneOnAt w n (nth old n) (nth new n))
      → AreOpen old ms
      → AreOpen new (followed_by ms l)
  opens_lasting old new t is_t same gone are =
      opens_stepped old new t is_t (λ n ne. gone_at w n (nth old n) (nth new n) (gone n))
      (inl (same, gone_at w t (nth old t) (nth new t) (gone t))) are

  -- the wait of t begins
  pub opens_begun :
      (old mid new : List (Option OpenWait)) (t : ℕ)
      → Some t ≡ actor (now ms) l
      → waits t (now ms) ≡ false
      → waits t w ≡ true
      → ((n : ℕ) → GoneOnAt w n (nth old n) (nth mid n))
      → BegunAt w t (open_at new t)
      → SameBut t mid new
      → AreOpen old ms
      → AreOpen new (followed_by ms l)
  opens_begun old mid new t is_t before is gone begun others are =
      opens_stepped old new t is_t
      (λ n ne. let P : Option OpenWait → Type 0 = λ y. GoneOn w n (open_at old n) y in
      subst P (sym (others n ne)) (gone_at w n (nth old n) (nth mid n) (gone n)))
      (inr (inr (before, is, begun))) are

  -- ---- the times of a wait that ended

  none_ended :
      (x : Option OpenWait) (times : Option Tally)
      → EndedAt w.clock x times
      → x ≡ None
      → times ≡ None
  none_ended None None ended e = refl
  none_ended None (Some times) ended e = absurd ended
  none_ended (Some o) times ended e = cc

  kept_ended :
      (t : ℕ) (x : Option OpenWait) (times : Option Tally) (o : OpenWait)
      → EndedAt w.clock x times
      → x ≡ Some o
      → Follows o t ms
      → times ≡ Some (tally t (followed_by ms l))
  kept_ended t None times o ended e follows = cc
  kept_ended t (Some p) None o ended e follows = absurd ended
  kept_ended t (Some p) (Some times) o ended e follows =
      let P : OpenWait → Type 0 = λ p. Follows p t ms in
      ap Some (ended t ms next (subst P (sym (same_Some p o e)) follows)
      (clock-le-after (now ms) l) (ap (λ (w : World). w.clock) (sym is_after)))

  -- none is kept of a thread that doesn't wait
  kept_waits :
      (old : List (Option OpenWait)) (t : ℕ) (x : Option OpenWait)
      → open_at old t ≡ x
      → waits t (now ms) ≡ false
      → AreOpen old ms
      → x ≡ None
  kept_waits old t None e h are = refl
  kept_waits old t (Some o) e h are =
      absurd (let f : false ≡ true = sym h ∙ (are.each t o e).lasts in cc)

  ended_as :
      (old : List (Option OpenWait)) (t : ℕ) (was : Bool) (times : Option Tally)
      → was ≡ waits t (now ms)
      → EndedAt w.clock (open_at old t) times
      → AreOpen old ms
      → times ≡ (if was then Some (tally t (followed_by ms l)) else None)
  ended_as old t false times is_was ended are =
      none_ended
      (open_at old t) times ended (kept_waits old t (open_at old t) refl (sym is_was) are)
  ended_as old t true times is_was ended are =
      let before = are.all t (sym is_was) in
      kept_ended t (open_at old t) times before.0 ended before.1 (are.each t before.0 before.1)

  -- the line ended the wait of t, if it waited
  pub times_ended :
      (old : List (Option OpenWait)) (t : ℕ) (times : Option Tally)
      → waits t w ≡ false
      → EndedAt w.clock (open_at old t) times
      → AreOpen old ms
      → times ≡ ended_times (Some t) ms l
  times_ended old t times ends ended are =
      ended_as old t (waits t (now ms)) times refl ended are
      ∙ ap (λ b. if b then Some (tally t (followed_by ms l)) else None)
      (sym (and-true (waits t (now ms)) (not (waits t (after (now ms) l)))
      (ap (λ (w : World). not (waits t w)) (sym is_after) ∙ ap not ends)))
