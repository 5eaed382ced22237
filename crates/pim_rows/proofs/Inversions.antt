-- What holds of inverted waits after each line.
use Rattle.std.proofs.Common.{◌≡◌, ◌≢◌, ℕ, ◌<◌, ◌==◌, Bool, true, false, not, ◌&&◌, cond, List, []}
use Rattle.std.proofs.Common.{◌∷◌, Option, Some, None, is_some, is_none, nat_lt, option_and_then}
use Rattle.std.proofs.Common.{refl, sym, ◌∙◌, ap, subst, arith, if◌then◌else◌}
use Rattle.std.specs.List.{fold}
use Rattle.std.proofs.lemmas.Bool.{cond-true, and_parts, and_from, ltb-true, lt-ltb, eq-eqb}
use Rattle.std.proofs.lemmas.Bool.{true≢false}
use Rattle.std.proofs.lemmas.Option.{same_Some, none-some}
use Rattle.pim_base.specs.State.{base_of}
use Rattle.pim_fact_lines.specs.declared.line.Line.{Line}
use Rattle.pim_waits.specs.Awaited.{awaited_of}
use Rattle.pim_waits.specs.Waiting.{gets, runner}
use Rattle.pim_waits.specs.Laws.{HasLowRunner, WayPassesOn, IsIdleOwner, WaitsForIdle}
use Rattle.pim_waits.proofs.Runners.{runner_law}
use Rattle.pim_waits.proofs.Blaming.{blame_law, blame_exists_law, passing_law}
use Rattle.pim_waits.proofs.Idle.{idle_owner_law}
use Rattle.pim_world.specs.Worlds.{World, Kernel, no_world, blocked_at, last_cpu}
use Rattle.pim_world.specs.After.{after}
use Rattle.pim_world.specs.Steady.{IsSteadyKernel, IsSteady}
use Rattle.pim_world.proofs.Steadiness.{steady_law}
use Rattle.pim_rows.specs.Moments.{Moment, now, first_moments, followed_by}
use Rattle.pim_world.specs.Standing.{could_run, inverted_by, meanwhile_of, in_place_of, is_ready_off}
use Rattle.pim_world.specs.Standing.{off_of, run_level}
use Rattle.pim_rows.specs.Rows.{moments_of}
use Rattle.pim_rows.specs.Laws.{is_inverted}
use Rattle.pim_rows.specs.Inversions.{HasInversionLaws, InversionLaw}

-- the world after lines
pub now-fold :
    (ls : List Line) (ms : List Moment)
    → now (fold followed_by ms ls) ≡ fold after (now ms) ls
now-fold [] ms = refl
now-fold (l ∷ ls) ms = now-fold ls (followed_by ms l)

pub now-moments_of : (ls : List Line) → now (moments_of ls) ≡ fold after no_world ls
now-moments_of ls = now-fold ls first_moments

-- what is taken only if this holds
kept_if : (b : Bool) (x y : ℕ) → (if b then Some x else None) ≡ Some y → (b ≡ true) × (x ≡ y)
kept_if true x y e = (refl, same_Some x y e)
kept_if false x y e = absurd (none-some y e)

module _ (w : World) (t : ℕ) where
  -- r has less than t gets, and could run
  abbrev is_low : ℕ → Bool
  is_low r = could_run w r && nat_lt (gets w.state r) (gets w.state t)

  inverted_parts :
      (r : ℕ)
      → inverted_by w t ≡ Some r
      → (runner w.state t ≡ Some r) × (gets w.state r < gets w.state t)
  inverted_parts r e = go (runner w.state t) refl e
    where
      go :
          (o : Option ℕ)
          → runner w.state t ≡ o
          → option_and_then (λ r. if is_low r then Some r else None) o ≡ Some r
          → (runner w.state t ≡ Some r) × (gets w.state r < gets w.state t)
      go None is e = absurd (none-some r e)
      go (Some x) is e =
          let kept = kept_if (is_low x) x r e in
          let low : is_low r ≡ true = ap is_low (sym kept.1) ∙ kept.0 in (
            is ∙ ap Some kept.1,
            ltb-true (gets w.state r) (gets w.state t) (and_parts (could_run w r) _ low).1,
          )

  low_runner : (r : ℕ) → inverted_by w t ≡ Some r → HasLowRunner w.state t
  low_runner r e = let parts = inverted_parts r e in (r, parts.0, parts.1)

  -- which thread t is inverted by
  inverter : is_inverted t w ≡ true → (r : ℕ) × (inverted_by w t ≡ Some r)
  inverter e = go (inverted_by w t) refl e
    where
      go :
          (o : Option ℕ)
          → inverted_by w t ≡ o
          → is_some o ≡ true
          → (r : ℕ) × (inverted_by w t ≡ Some r)
      go None is e = cc
      go (Some r) is e = (r, is)

  passing : IsSteady w → WayPassesOn w.state t → inverted_by w t ≡ None
  passing s passes = go (inverted_by w t) refl
    where
      go : (o : Option ℕ) → inverted_by w t ≡ o → o ≡ None
      go None is = refl
      go (Some r) is =
          let parts = inverted_parts r is in
          absurd (omega (arith, parts.1, passing_law w.state t r s.state passes parts.0))

  idle :
      (m u : ℕ)
      → IsSteady w
      → IsIdleOwner w.state m u
      → blocked_at w u ≡ None
      → awaited_of w.state t ≡ Some m
      → (is_inverted t w ≡ true → base_of w.state u < gets w.state t)
      × (base_of w.state u < gets w.state t → is_inverted t w ≡ true)
  idle m u s owner free awaits = (there, back)
    where
      known : WaitsForIdle w.state t u
      known = idle_owner_law w.state t m u s.state owner awaits

      there : is_inverted t w ≡ true → base_of w.state u < gets w.state t
      there e = let by = inverter e in known.inverted.0 (low_runner by.0 by.1)

      back : base_of w.state u < gets w.state t → is_inverted t w ≡ true
      back low =
          let less : gets w.state u < gets w.state t = omega (arith, low, known.level) in
          let is : is_low u ≡ true =
          and_from _ _ (ap is_none free) (lt-ltb (gets w.state u) (gets w.state t) less) in
          ap is_some (ap (option_and_then (λ r. if is_low r then Some r else None)) known.runs
          ∙ cond-true (is_low u) (Some u) None is)

  -- a thread on a CPU isn't one that is off
  on_other : (k : Kernel) (n r u : ℕ) → IsSteadyKernel k n → in_place_of k r ≡ Some u → u ≢ r
  on_other k n r u s e same = go (is_ready_off (off_of k r)) refl e
    where
      at : (o : Option ℕ) → option_and_then k.on o ≡ Some u → (cpu : ℕ) × (k.on cpu ≡ Some u)
      at None e = absurd (none-some u e)
      at (Some cpu) e = (cpu, e)

      go :
          (b : Bool)
          → is_ready_off (off_of k r) ≡ b
          → cond b (option_and_then k.on (last_cpu k r)) None ≡ Some u
          → ⊥
      go false is e = none-some u e
      go true is e =
          let on = at (last_cpu k r) e in
          let none : off_of k r ≡ None = (s.on on.0 r (on.1 ∙ ap Some same)).1 in
          true≢false (sym is ∙ ap is_ready_off none)

  meanwhile : (r u : ℕ) → IsSteady w → meanwhile_of w t r ≡ Some u → (u ≢ t) × (u ≢ r)
  meanwhile r u s e = go (in_place_of w.kernel r) refl e
    where
      above : ℕ → Bool
      above u = not (u == t) && nat_lt (run_level w u) (gets w.state t)

      go :
          (o : Option ℕ)
          → in_place_of w.kernel r ≡ o
          → option_and_then (λ u. if above u then Some u else None) o ≡ Some u
          → (u ≢ t) × (u ≢ r)
      go None is e = absurd (none-some u e)
      go (Some v) is e =
          let kept = kept_if (above v) v u e in
          let not_t : not (u == t) ≡ true =
          (and_parts (not (u == t)) _ (ap above (sym kept.1) ∙ kept.0)).0 in (
            λ same. true≢false (sym not_t ∙ ap not (eq-eqb u t same)),
            on_other w.kernel _ r u s.kernel (is ∙ ap Some kept.1),
          )

  inversion_laws : IsSteady w → HasInversionLaws w t
  inversion_laws s = record {
    passing = passing s;
    blamed = λ r e.
        let low = low_runner r e in
        let m = blame_exists_law w.state t low in
        (m.0, m.1, blame_law w.state t m.0 s.state m.1);
    idle = λ m u owner free awaits. idle m u s owner free awaits;
    runs = runner_law w.state t;
    meanwhile = λ r u by e. meanwhile r u s e;
  }

pub inversion_law : InversionLaw
inversion_law bytes ls says t =
    let w = now (moments_of ls) in
    inversion_laws w t (subst IsSteady (sym (now-moments_of ls)) (steady_law bytes ls says))
