-- For how long a thread has been off a CPU, after one line more.
use Rattle.std.proofs.Common.{◌≡◌, ◌≢◌, ◌≤◌, ◌<◌, ℕ, zero, suc, ◌+◌, ◌-◌, max, Bool, true, false}
use Rattle.std.proofs.Common.{List, [], ◌∷◌, length, replicate, slice_get, Option, Some, None}
use Rattle.std.proofs.Common.{is_some, unwrap_or, refl, sym, ◌∙◌, ap, subst, inl, inr, arith}
use Rattle.std.proofs.Common.{if◌then◌else◌}
use Rattle.std.proofs.lemmas.Bool.Decides.{eqb_tells, leb_tells}
use Rattle.std.proofs.lemmas.Option.{same_Some}
use Rattle.pim_fact_lines.specs.declared.line.Line.{Line}
use Rattle.pim_fact_lines.specs.declared.line.Line.TheVariants as lines
use Rattle.pim_world.specs.declared.kernel.Off.{Off}
use Rattle.pim_world.specs.Worlds.{World}
use Rattle.pim_world.specs.After.{after, set}
use Rattle.pim_rows.specs.Moments.{Moment, now, clock, followed_by}
use Rattle.pim_world.specs.Standing.{is_off}
use Rattle.pim_rows.specs.Begun.{off_time}
use Rattle.pim_rows.specs.Found.{actor}
use Rattle.pim_rows.specs.OffTimes.{IsOffTime, AreOffTimes, no_off_time, off_kept, off_from}
use Rattle.pim_rows.specs.OffTimes.{off_ended, is_lost}
use Rattle.pim_rows.specs.declared.off_time.OffTime.{OffTime}
use Rattle.pim_rows.proofs.Clock.{clock-le-after}
use Rattle.pim_rows.proofs.Frames.{off-after}
use Rattle.pim_rows.proofs.Starting.{set_same, set_other}

-- ---- one thread

-- it is off or on a CPU as before
off_kept_on :
    (o : OffTime) (was is : Bool) (time clock next : ℕ)
    → clock ≤ next
    → was ≡ is
    → IsOffTime o was time clock
    → IsOffTime o is (time + (if was then next - clock else 0)) next
off_kept_on o true true time clock next later same so =
    let since : o.since ≤ clock = so.earlier refl in
    record {
      sum = omega (arith, so.sum);
      earlier = λ _. omega arith;
      within = omega (arith, so.within);
    }
off_kept_on o true false time clock next later same so = absurd (cc)
off_kept_on o false true time clock next later same so = absurd (cc)
off_kept_on o false false time clock next later same so =
    record {
      sum = omega (arith, so.sum);
      earlier = λ e. absurd (cc);
      within = omega (arith, so.within);
    }

-- it is put off
off_begun :
    (o : OffTime) (was is : Bool) (time clock next : ℕ)
    → clock ≤ next
    → was ≡ false
    → is ≡ true
    → IsOffTime o was time clock
    → IsOffTime (off_from o next) is (time + (if was then next - clock else 0)) next
off_begun o false true time clock next later was_on is_off so =
    record {
      sum = omega (arith, so.sum);
      earlier = λ _. omega arith;
      within = omega (arith, so.within);
    }
off_begun o true is time clock next later was_on is_off so = absurd (cc)
off_begun o false false time clock next later was_on is_off so = absurd (cc)

-- what is kept of it if it may have been off, and isn't any more
abbrev pub off_over : Bool → OffTime → ℕ → OffTime
off_over off o clock = if off then off_ended o clock else o

-- it isn't off any more
off_over_now :
    (o : OffTime) (was is : Bool) (time clock next : ℕ)
    → clock ≤ next
    → next ≤ 18446744073709551615
    → is ≡ false
    → IsOffTime o was time clock
    → IsOffTime (off_over was o next) is (time + (if was then next - clock else 0)) next
off_over_now o was true time clock next later fits is_on so = absurd (cc)
off_over_now o true false time clock next later fits is_on so =
    let since : o.since ≤ clock = so.earlier refl in
    record {
      sum = omega (arith, so.sum, so.within);
      earlier = λ e. absurd (cc);
      within = omega (arith, so.within);
    }
off_over_now o false false time clock next later fits is_on so =
    record {
      sum = omega (arith, so.sum);
      earlier = λ e. absurd (cc);
      within = omega (arith, so.within);
    }

-- ---- a line that isn't `lost`

module _ (ms : List Moment) (l : Line) (known : is_lost l ≡ false) where
  -- what is to be of one thread after the line
  abbrev IsAfter : (ℕ → Option OffTime) → ℕ → Type 0
  IsAfter new k =
      IsOffTime (off_kept new k)
      (is_off k (after (now ms) l)) (off_time k (followed_by ms l)) (after (now ms) l).clock

  off_else :
      (old new : ℕ → Option OffTime) (k : ℕ)
      → is_off k (now ms) ≡ is_off k (after (now ms) l)
      → off_kept new k ≡ off_kept old k
      → AreOffTimes old ms → IsAfter new k
  off_else old new k same kept are =
      subst (λ o. IsOffTime o (is_off k (after (now ms) l))
      (off_time k (followed_by ms l)) (after (now ms) l).clock) (sym kept)
      (off_kept_on (off_kept old k) _ _ _ _ _ (clock-le-after (now ms) l) same (are k))

  off_as_before :
      (k : ℕ)
      → ((j : ℕ) → actor (now ms) l ≡ Some j → j ≢ k)
      → is_off k (now ms) ≡ is_off k (after (now ms) l)
  off_as_before k ne = sym (ap is_some (off-after l k (now ms) known ne))

  -- the line has no thread
  pub off_times_kept :
      (old : ℕ → Option OffTime)
      → actor (now ms) l ≡ None
      → AreOffTimes old ms
      → AreOffTimes old (followed_by ms l)
  off_times_kept old none are k = off_else old old k (off_as_before k (λ j e. absurd (cc))) refl are

  module _ (old : ℕ → Option OffTime)
      (t : ℕ) (is_t : actor (now ms) l ≡ Some t) (are : AreOffTimes old ms) where
    off_followed :
        (new : ℕ → Option OffTime)
        → ((k : ℕ) → t ≢ k → off_kept new k ≡ off_kept old k)
        → IsAfter new t
        → AreOffTimes new (followed_by ms l)
    off_followed new others here k =
        elim (eqb_tells t k) [
          | inl (_, e) ↦ subst (λ k. IsAfter new k) e here
          | inr (_, ne) ↦ off_else old new k (off_as_before k
              (λ j is_j e. ne (same_Some t j (sym is_t ∙ is_j) ∙ e))) (others k ne) are
        ]

    off_put :
        (new : ℕ → Option OffTime) (o : OffTime) → new ≡ set t (Some o) old
        → IsOffTime o
        (is_off t (after (now ms) l)) (off_time t (followed_by ms l)) (after (now ms) l).clock
        → AreOffTimes new (followed_by ms l)
    off_put new o e here =
        off_followed new
        (λ k ne. ap (λ f. off_kept f k) e
        ∙ ap (λ x. unwrap_or x no_off_time) (set_other t k (Some o) old ne))
        (subst (λ o. IsOffTime o
        (is_off t (after (now ms) l)) (off_time t (followed_by ms l)) (after (now ms) l).clock)
        (sym (ap (λ f. off_kept f t) e
        ∙ ap (λ x. unwrap_or x no_off_time) (set_same t (Some o) old)))
        here)

    -- its thread is off or on a CPU as before
    pub off_times_same :
        is_off t (now ms) ≡ is_off t (after (now ms) l)
        → AreOffTimes old (followed_by ms l)
    off_times_same same = off_followed old (λ k ne. refl) (off_else old old t same refl are)

    -- it is put off
    pub off_times_begun :
        (new : ℕ → Option OffTime) → is_off t (now ms) ≡ false → is_off t (after (now ms) l) ≡ true
        → new ≡ set t (Some (off_from (off_kept old t) (after (now ms) l).clock)) old
        → AreOffTimes new (followed_by ms l)
    off_times_begun new was is e =
        off_put new (off_from (off_kept old t) (after (now ms) l).clock) e
        (off_begun (off_kept old t) _ _ _ _ _ (clock-le-after (now ms) l) was is (are t))

    -- it was off until now
    pub off_times_ended :
        (new : ℕ → Option OffTime) → is_off t (now ms) ≡ true → is_off t (after (now ms) l) ≡ false
        → (after (now ms) l).clock ≤ 18446744073709551615
        → new ≡ set t (Some (off_ended (off_kept old t) (after (now ms) l).clock)) old
        → AreOffTimes new (followed_by ms l)
    off_times_ended new was is fits e =
        off_put new (off_over (is_off t (now ms)) (off_kept old t) (after (now ms) l).clock)
        (e ∙ ap (λ b. set t (Some (off_over b (off_kept old t) (after (now ms) l).clock)) old)
        (sym was))
        (off_over_now (off_kept old t) _ _ _ _ _ (clock-le-after (now ms) l) fits is (are t))

-- ---- a `lost` line

abbrev nobody_off : ℕ → List (Option Off)
nobody_off n = replicate n None

off_nowhere : (n i : ℕ) → is_some (unwrap_or (slice_get (nobody_off n) i) None) ≡ false
off_nowhere zero i = refl
off_nowhere (suc n) zero = refl
off_nowhere (suc n) (suc i) = off_nowhere n i

no_thread_off : (w : World) (time k : ℕ) → is_off k (after w (lines.Lost time)) ≡ false
no_thread_off w time zero = refl
no_thread_off w time (suc i) = off_nowhere _ i

pub off_times_lost :
    (ms : List Moment) (time : ℕ) (old new : ℕ → Option OffTime)
    → max (clock ms) time ≤ 18446744073709551615
    → ((k : ℕ)
    → off_kept new k ≡ off_over (is_off k (now ms)) (off_kept old k) (max (clock ms) time))
    → AreOffTimes old ms
    → AreOffTimes new (followed_by ms (lines.Lost time))
off_times_lost ms time old new fits kept are k =
    let lost : Line = lines.Lost time in
    subst (λ o. IsOffTime o (is_off k (after (now ms) lost))
    (off_time k (followed_by ms lost)) (after (now ms) lost).clock)
    (sym (kept k))
    (off_over_now (off_kept old k) _ _ _ _ _
    (clock-le-after (now ms) lost) fits (no_thread_off (now ms) time k) (are k))

-- what is kept if t may have been off, and isn't any more
abbrev pub one_over : Bool → ℕ → ℕ → (ℕ → Option OffTime) → ℕ → Option OffTime
one_over off t next kept =
    if off then set t (Some (off_ended (off_kept kept t) next)) kept else kept

-- the threads at the places up to i aren't off any more
pub record AreOver (old new : ℕ → Option OffTime) (w : World) (next i : ℕ) : Type 0 where
  pub past : (k : ℕ) → k ≤ i → off_kept new k ≡ off_over (is_off k w) (off_kept old k) next
  pub rest : (k : ℕ) → i < k → off_kept new k ≡ off_kept old k

over_rest :
    (now_kept new : ℕ → Option OffTime) (w : World) (next i : ℕ) (is : Bool)
    → new ≡ one_over is (i + 1) next now_kept
    → (k : ℕ)
    → i + 1 ≢ k → off_kept new k ≡ off_kept now_kept k
over_rest now_kept new w next i false e k ne = ap (λ f. off_kept f k) e
over_rest now_kept new w next i true e k ne =
    ap (λ f. off_kept f k) e ∙ ap (λ x. unwrap_or x no_off_time) (set_other (i + 1) k _ now_kept ne)

over_here :
    (now_kept new : ℕ → Option OffTime) (w : World) (next i : ℕ) (is : Bool)
    → new ≡ one_over is (i + 1) next now_kept
    → off_kept new (i + 1) ≡ off_over is (off_kept now_kept (i + 1)) next
over_here now_kept new w next i false e = ap (λ f. off_kept f (i + 1)) e
over_here now_kept new w next i true e =
    ap (λ f. off_kept f (i + 1)) e ∙ ap (λ x. unwrap_or x no_off_time) (set_same (i + 1) _ now_kept)

over_past :
    (old now_kept new : ℕ → Option OffTime) (w : World) (next i : ℕ) (is : Bool)
    → is ≡ is_off (i + 1) w
    → new ≡ one_over is (i + 1) next now_kept → AreOver old now_kept w next i → (k : ℕ) → k ≤ i + 1
    → off_kept new k ≡ off_over (is_off k w) (off_kept old k) next
over_past old now_kept new w next i is off e so k within = elim (eqb_tells (i + 1) k) [
  | inl (_, same) ↦
      subst (λ k. off_kept new k ≡ off_over (is_off k w) (off_kept old k) next) same
      (over_here now_kept new w next i is e
      ∙ ap (λ b. off_over b (off_kept now_kept (i + 1)) next) off
      ∙ ap (λ o. off_over (is_off (i + 1) w) o next) (so.rest (i + 1) (omega arith)))
  | inr (_, ne) ↦ over_rest now_kept new w next i is e k ne ∙ so.past k (omega arith)
]

off_past :
    (xs : List (Option Off)) (i : ℕ)
    → length xs ≤ i
    → is_some (unwrap_or (slice_get xs i) None) ≡ false
off_past [] i past = refl
off_past (x ∷ xs) zero past = absurd (omega arith)
off_past (x ∷ xs) (suc i) past = off_past xs i (omega arith)

off_beyond : (w : World) (k : ℕ) → length w.kernel.off < k → is_off k w ≡ false
off_beyond w zero past = absurd (omega arith)
off_beyond w (suc i) past = off_past w.kernel.off i (omega arith)

-- one more of them
pub over_more :
    (old now_kept new : ℕ → Option OffTime) (w : World) (next i : ℕ) (is : Bool)
    → is ≡ is_off (i + 1) w
    → new ≡ one_over is (i + 1) next now_kept
    → AreOver old now_kept w next i → AreOver old new w next (i + 1)
over_more old now_kept new w next i is off e so = record {
  past = λ k within. over_past old now_kept new w next i is off e so k within;
  rest =
      λ k later. (let ne : i + 1 ≢ k = omega arith in over_rest now_kept new w next i is e k ne)
      ∙ so.rest k (omega arith);
}

-- all of them
pub over_all :
    (old new : ℕ → Option OffTime) (w : World) (next i : ℕ)
    → length w.kernel.off ≤ i
    → AreOver old new w next i
    → (k : ℕ)
    → off_kept new k ≡ off_over (is_off k w) (off_kept old k) next
over_all old new w next i all so k = elim (leb_tells k i) [
  | inl (_, within) ↦ so.past k within
  | inr (_, later) ↦ so.rest k later
      ∙ ap (λ b. off_over b (off_kept old k) next) (sym (off_beyond w k (omega arith)))
]
