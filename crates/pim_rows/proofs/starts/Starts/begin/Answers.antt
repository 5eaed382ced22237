use Rattle.std.proofs.Common.{◌≡◌, ◌<◌, ℕ, length, List, Option, Some, None, unwrap_or, inl, inr}
use Rattle.std.proofs.Common.{sym, ap, ◌∙◌}
use Rattle.std.specs.Prelude.{slice_get}
use Rattle.std.proofs.Math.ListN.{set as set_item}
use Rattle.std.proofs.lemmas.Bool.Decides.{eqb_tells}
use Rattle.pim_base.proofs.Places.{slice_get-set_same, slice_get-set_other}
use Rattle.pim_world.specs.After.{set}
use Rattle.pim_rows.proofs.starts.Starts.begin.Goals as goal
use mathlib.Core.Path.{fun_ext}

-- the list with another item at a place keeps that of this place
begun :
    {D : Type 0} (xs : List (Option D)) (i : ℕ) (x : D) (old : ℕ → Option D)
    → i < length xs
    → ((n : ℕ) → unwrap_or (slice_get xs n) None ≡ old n)
    → (n : ℕ)
    → unwrap_or (slice_get (set_item xs i (Some x)) n) None ≡ set i (Some x) old n
begun xs i x old within same n =
    elim (eqb_tells i n) [
      | inl (is, e) ↦
          rw is
          (ap (λ k. unwrap_or (slice_get (set_item xs i (Some x)) k) None) (sym e)
          ∙ ap (λ o. unwrap_or o None) (slice_get-set_same xs i (Some x) within))
      | inr (is, ne) ↦
          rw is
          (ap (λ o. unwrap_or o None) (slice_get-set_other xs i n (Some x) ne) ∙ same n)
    ]

pub returns : goal.returns
returns g c =
    fun_ext
    (begun c.grow.new.self.starts.items c.args.place c.args.start _ c.in_ok-grow.ensures.room
    c.in_ok-grow.ensures.same)
