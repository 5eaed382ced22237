-- What a request finds, by the owner of the mutex.
use Rattle.std.proofs.Common.{◌≡◌, ℕ, ◌&&◌, false, refl, ap, ◌∙◌, Some, None}
use Rattle.std.proofs.lemmas.Bool.{and_right}
use Rattle.std.specs.Option.{option_map_or}
use Rattle.pim_base.specs.Lists.{contains, holds}
use Rattle.pim_base.specs.State.{State, owner_of, protocol_of, is_recursive, relocks}
use Rattle.pim_base.specs.Chains.{waits_chain, leads_back}
use Rattle.pim_base.specs.Counts.{differing}
use Rattle.pim_chain.proofs.Walking.{differing_none}

-- no priority differs from itself
pub none_differs : (n : ℕ) (f : ℕ → ℕ) → differing n f f ≡ 0
none_differs n f = differing_none n f f (λ t low high. refl)

-- no task locks a free mutex once more
pub free_relocks : (S : State) (t m : ℕ) → owner_of S m ≡ None → relocks S t m ≡ false
free_relocks S t m free = ap (λ o. is_recursive (protocol_of S m) && holds o t) free ∙ and_right _ _ refl

-- a wait for a free mutex leads nowhere
pub free_leads_back : (S : State) (t m : ℕ) → owner_of S m ≡ None → leads_back S t m ≡ false
free_leads_back S t m free = ap (λ o. option_map_or (λ u. contains (waits_chain S u) t) o false) free

-- a wait for an owned mutex leads along the chain of its owner
pub owned_leads_back : (S : State) (t m u : ℕ) → owner_of S m ≡ Some u → leads_back S t m ≡ contains (waits_chain S u) t
owned_leads_back S t m u owned = ap (λ o. option_map_or (λ u. contains (waits_chain S u) t) o false) owned

-- what closes the goals of many answers
pub ruleset requests = (none_differs, free_relocks, free_leads_back, owned_leads_back)
