-- The rows of the wait and of the block that a line ends.
use Rattle.std.proofs.Common.{◌≡◌, ℕ, ◌+◌, ◌==◌, Bool, true, false, not, ◌&&◌, List, ◌∷◌, ◌++◌, []}
use Rattle.std.proofs.Common.{Option, Some, None, refl, sym, ◌∙◌, ap, subst, cond, nat_lt}
use Rattle.std.proofs.Common.{append-nil, is_some, if◌then◌else◌}
use Rattle.std.specs.Option.{option_map_or}
use Rattle.std.proofs.lemmas.Bool.{and_parts}
use Rattle.std.proofs.lemmas.Option.{same_Some}
use Rattle.pim_fact_lines.specs.declared.line.Ended.{Ended}
use Rattle.pim_fact_lines.specs.declared.line.Line.{Line}
use Rattle.pim_fact_lines.specs.declared.line.What.{What}
use Rattle.pim_fact_lines.specs.declared.line.What.TheVariants as whats
use Rattle.pim_world.specs.Worlds.{blocked_at}
use Rattle.pim_world.specs.After.{after}
use Rattle.pim_world.specs.Following.{may_happen}
use Rattle.pim_rows.specs.Moments.{Moment, now, number, clock, began, followed_by}
use Rattle.pim_world.specs.Standing.{waits}
use Rattle.pim_rows.specs.Tallies.{Tally, tally, total}
use Rattle.pim_rows.specs.Begun.{is_blocked, WaitStart, wait_start, Block, block}
use Rattle.pim_rows.specs.Rows.{wait_rows, blocked_row, granted, resumed, text_of}
use Rattle.pim_rows.specs.Kept.{AreStarts}
use Rattle.pim_rows.specs.Ending.{ended_tally, AreCounts, ArePut}
use Rattle.pim_rows.specs.declared.ended_rows.EndedWaits.{EndedWaits}
use Rattle.pim_rows.proofs.Appended.{count-wait_rows}
use Rattle.pim_rows.proofs.NoWaits.{twelfth}

some_if :
    {A : Type 0} (b : Bool) (x y : A)
    → Some x ≡ (if b then Some y else None)
    → (b ≡ true) × (x ≡ y)
some_if true x y e = (refl, same_Some x y e)
some_if false x y e = cc

none_if : {A : Type 0} (b : Bool) (y : A) → None ≡ (if b then Some y else None) → b ≡ false
none_if true y e = cc
none_if false y e = refl

some_of :
    {A : Type 0} (f : A → Bool) (o : Option A)
    → option_map_or f o false ≡ true
    → is_some o ≡ true
some_of f (Some x) e = refl
some_of f None e = e

-- the counts of the rows of a wait
pub wait_counted :
    (s : WaitStart) (ms : List Moment) (until : ℕ) (times : Tally) (counts : EndedWaits)
    → counts.waits ≡ 1 → counts.inverted ≡ cond (nat_lt 0 (total times.inverted)) 1 0
    → AreCounts counts (wait_rows s ms until times)
wait_counted s ms until times counts waits inverted =
    record {
      waits = waits ∙ sym (count-wait_rows (twelfth (λ n. true)) s ms until times);
      inverted = inverted ∙ sym (count-wait_rows (twelfth (λ n. nat_lt 0 n)) s ms until times);
    }

-- ---- the rows

module _ (ms : List Moment) (l : Line) (t : ℕ) where
  -- the rows of a wait that began so, and whose times are kept
  pub granted_is :
      (kept : ℕ → Option WaitStart) (s : WaitStart) (times : Tally)
      → AreStarts waits wait_start kept ms → kept t ≡ Some s → Some times ≡ ended_tally t ms l
      → granted (followed_by ms l) ms t ≡ wait_rows s (followed_by ms l) (number ms + 1) times
  granted_is kept s times are is_s ended =
      let both = some_if (waits t (now ms) && not (waits t (after (now ms) l))) times
      (tally t (followed_by ms l)) ended in
      let all : WaitStart → Tally → List _ =
      λ s times. wait_rows s (followed_by ms l) (number ms + 1) times in
      ap
      (λ b. if b then all (wait_start t (began (waits t) ms)) (tally t (followed_by ms l)) else [])
      both.0
      ∙ ap (λ s. all s (tally t (followed_by ms l)))
      (sym (same_Some _ _ (sym is_s ∙ are t (and_parts _ _ both.0).0)))
      ∙ ap (all s) (sym both.1)

  -- they were appended
  pub wait_put :
      (kept : ℕ → Option WaitStart)
      (s : WaitStart) (times : Tally) (old new : List ℕ) (n time : ℕ) (counts : EndedWaits)
      → AreStarts waits wait_start kept ms
      → kept t ≡ Some s
      → Some times ≡ ended_tally t ms l
      → n ≡ number ms + 1
      → clock (followed_by ms l) ≡ time
      → ((ms : List Moment) → clock ms ≡ time → new ≡ old ++ text_of (wait_rows s ms n times))
      → counts.waits ≡ 1 → counts.inverted ≡ cond (nat_lt 0 (total times.inverted)) 1 0
      → ArePut (granted (followed_by ms l) ms t) old new counts
  wait_put kept s times old new n time counts are is_s ended is_n at put waited inverted =
      let is = sym (granted_is kept s times are is_s ended) in
      record {
        text =
            put (followed_by ms l) at
            ∙ ap (λ n. old ++ text_of (wait_rows s (followed_by ms l) n times)) is_n
            ∙ ap (λ rows. old ++ text_of rows) is;
        counted =
            subst (AreCounts counts) is
            (wait_counted s (followed_by ms l) (number ms + 1) times counts waited inverted);
      }

  -- nothing is appended if no wait ended
  pub none_put :
      (o : List ℕ) (counts : EndedWaits)
      → None ≡ ended_tally t ms l
      → counts.waits ≡ 0
      → counts.inverted ≡ 0
      → ArePut (granted (followed_by ms l) ms t) o o counts
  none_put o counts none waited inverted =
      let is : [] ≡ granted (followed_by ms l) ms t =
      sym
      (ap
      (λ b. if b
      then wait_rows (wait_start t (began (waits t) ms)) (followed_by ms l) (number ms + 1)
      (tally t (followed_by ms l)) else [])
      (none_if (waits t (now ms) && not (waits t (after (now ms) l)))
      (tally t (followed_by ms l)) none)) in
      subst (λ rows. ArePut rows o o counts) is
      (record {
        text = sym (append-nil o);
        counted = record { waits = waited; inverted = inverted };
      })

  -- the row of a block that began so
  pub resumed_is :
      (kept : ℕ → Option Block) (b : Block) (what : What) (x : ℕ) (ended : Ended)
      → AreStarts is_blocked block kept ms
      → kept t ≡ Some b
      → what ≡ whats.Resumes x ended
      → may_happen (now ms) t what ≡ true
      → resumed (followed_by ms l) ms t what
      ≡ blocked_row b (followed_by ms l) (number ms + 1) ended ∷ []
  resumed_is kept b what x ended are is_b is may =
      let parts = and_parts _ _ (and_parts _ _ (sym (ap (may_happen (now ms) t) is) ∙ may)).0 in
      let blocked = some_of (λ y. y == x) (blocked_at (now ms) t) parts.1 in
      ap (resumed (followed_by ms l) ms t) is
      ∙ ap (λ b. blocked_row b (followed_by ms l) (number ms + 1) ended ∷ [])
      (same_Some _ _ (sym (are t blocked) ∙ is_b))
