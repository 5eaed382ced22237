-- What is still kept of the waits that last, and what was written of one.
use Rattle.std.proofs.Common.{◌≡◌, ◌≢◌, ℕ, true, List, ◌++◌, sym, ◌∙◌, ap, subst, Option, Some}
use Rattle.std.proofs.Common.{None, unwrap_or, if◌then◌else◌, cond, [], inl, inr}
use Rattle.std.proofs.lemmas.Bool.Decides.{eqb_tells}
use Rattle.std.specs.Prelude.{nat_lt}
use Rattle.pim_base.specs.Lists.{nth}
use Rattle.pim_rows.specs.Moments.{Moment, now, began}
use Rattle.pim_world.specs.Standing.{waits}
use Rattle.pim_rows.specs.Begun.{WaitStart, wait_start}
use Rattle.pim_rows.specs.Tallies.{Tally, tally, total}
use Rattle.pim_rows.specs.Rows.{wait_rows, lasting_wait, text_of}
use Rattle.pim_rows.specs.Ending.{Puts}
use Rattle.pim_rows.proofs.Appended.{puts_wait}

pub kept_here :
    {X : Type 0} (o : Option (Option X)) (x : X)
    → Some x ≡ unwrap_or o None
    → o ≡ Some (Some x)
kept_here None x e = cc
kept_here (Some o) x e = ap Some (sym e)

some_isnt_none : {X : Type 0} (x : X) → Some x ≡ None → ⊥
some_isnt_none x e = cc

-- what is kept after one was taken was kept before
pub left_after :
    {X : Type 0} (xs ys : List (Option X)) (n t : ℕ) (x : X)
    → unwrap_or (nth ys n) None ≡ None → ((k : ℕ) → k ≢ n → nth ys k ≡ nth xs k)
    → nth ys t ≡ Some (Some x) → nth xs t ≡ Some (Some x)
left_after {X} xs ys n t x gone others e =
    elim (eqb_tells t n) [
      | inl (_, same) ↦
          let there : unwrap_or (nth ys n) None ≡ Some x =
          ap (λ k. unwrap_or (nth ys k) None) (sym same) ∙ ap (λ o. unwrap_or o None) e in
          absurd (some_isnt_none x (sym there ∙ gone))
      | inr (_, ne) ↦ sym (others t ne) ∙ e
    ]

-- the rows of a wait that lasts were appended
pub puts_lasting :
    (ms : List Moment) (t : ℕ) (s : WaitStart) (times : Tally) (o o1 : List ℕ) (k : ℕ)
    → true ≡ waits t (now ms) → s ≡ wait_start t (began (waits t) ms) → times ≡ tally t ms
    → o1 ≡ o ++ text_of (wait_rows s ms 0 times) → k ≡ cond (nat_lt 0 (total times.inverted)) 1 0
    → Puts (lasting_wait ms t) o o1 1 k
puts_lasting ms t s times o o1 k lasts s_is times_is text k_is =
    let rows : wait_rows s ms 0 times ≡ lasting_wait ms t =
    ap (λ s. wait_rows s ms 0 times) s_is
    ∙ ap (wait_rows (wait_start t (began (waits t) ms)) ms 0) times_is
    ∙ ap (λ b. if b
    then wait_rows (wait_start t (began (waits t) ms)) ms 0 (tally t ms) else []) lasts in
    subst (λ rows. Puts rows o o1 1 k) rows (subst
    (λ k. Puts (wait_rows s ms 0 times) o o1 1 k) (sym k_is) (puts_wait s ms 0 times o o1 text))
