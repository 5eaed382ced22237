-- Priorities that are read.
use Rattle.std.proofs.Common.{◌≡◌, Bool, true, false, ℕ, List, [], ◌∷◌, ◌&&◌, None, Some, refl, ap}
use Rattle.std.proofs.lemmas.Bool.{false≢true}
use Rattle.std.specs.Prelude.{if◌then◌else◌}
use Rattle.std.specs.List.{list_all, cons_option}
use Rattle.pim_c.specs.Making.{priorities_meant}
use Rattle.pim_ffi.specs.Protocols.{is_priority}

one_more : (b : Bool) (n : ℕ) (ns ms : List ℕ) → (b && list_all is_priority ns) ≡ true → (list_all is_priority ns ≡ true → ms ≡ ns)
    → cons_option (if b then Some n else None) ms ≡ n ∷ ns
one_more true n ns ms h same = ap (λ ws. n ∷ ws) (same h)
one_more false n ns ms h same = absurd (false≢true h)

-- if each number is a priority, all are meant
pub priorities_meant_of_priorities : (ns : List ℕ) → list_all is_priority ns ≡ true → priorities_meant ns ≡ ns
priorities_meant_of_priorities [] h = refl
priorities_meant_of_priorities (n ∷ ns) h = one_more (is_priority n) n ns (priorities_meant ns) h (priorities_meant_of_priorities ns)
