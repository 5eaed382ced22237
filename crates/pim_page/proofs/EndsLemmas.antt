-- What is counted, happened.
use Rattle.std.proofs.Common.{◌≡◌, ℕ, ◌-◌, ◌<◌, ◌^◌, arith, inl, inr}
use Rattle.std.proofs.lemmas.Bool.Decides.{leb_tells}
use Rattle.pim_page.specs.Ends.{one_more, Happened}

pub raised : (old new : ℕ) → new ≡ one_more old → Happened old new
raised old new e =
    elim (leb_tells (2 ^ 64 - 1) old) [
      | inl h ↦ inr h.1
      | inr h ↦ inl (let below : old < 2 ^ 64 - 1 = h.1 in omega arith)
    ]
