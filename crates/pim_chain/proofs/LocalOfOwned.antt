-- The local priority, one owned mutex after another.
use Rattle.std.proofs.Common.{◌≡◌, ℕ, zero, suc, max, Bool, true, cond, refl, arith, Option, List, ◌∷◌, length, is_some, map}
use Rattle.pim_base.specs.Lists.{holds, greatest}
use Rattle.pim_base.specs.State.{base_of, owner_of, owned, protocol_of}
use Rattle.pim_base.specs.Chains.{heir_in, heir_of}
use Rattle.pim_base.specs.Priorities.{local_priority, ceiling_of}
use Rattle.pim_base.specs.declared.steps.Protocol.{Protocol}
use Rattle.pim_base.proofs.Greatest.{greatest_of, greatest-cons, greatest_of-same}
use Rattle.pim_base.proofs.Stored.{heir_in-owner, from_holds}
use Rattle.pim_chain.specs.Views.{View, Ready, queue_at, stored_at, first_prio}
use Rattle.pim_chain.specs.Owned.{given}
use Rattle.pim_chain.proofs.Known.{owned_mutex}
use Rattle.std.proofs.lemmas.Bool.Decides.{nat_tests}
use Rattle.pim_chain.proofs.Local.{top, greatest_of-more}
use Rattle.pim_chain.proofs.Waiting.{local_by_mutexes, top_front}

-- the priority that one mutex gives, if the task owns it
given_of :
    (p : Protocol) (o : Option ℕ) (t ceiling first : ℕ)
    → cond (holds o t) (max ceiling (cond (is_some (heir_in p o)) first 0)) 0
    ≡ max (cond (holds o t) ceiling 0) (cond (holds (heir_in p o) t) first 0)
given_of p o t ceiling first = grind (arith, nat_tests)

-- the mutexes give their ceilings and the priorities of their first waiters
given_all :
    (v : View) (t n : ℕ)
    → greatest_of (given v) (λ m. holds (owner_of v.state m) t) n
    ≡ max (greatest_of (ceiling_of v.state) (λ m. holds (owner_of v.state m) t) n)
    (greatest_of (λ m. first_prio (queue_at v m)) (λ m. holds (heir_of v.state m) t) n)
given_all v t zero = refl
given_all v t (suc n) =
    let owned = greatest_of-more (given v) (λ m. holds (owner_of v.state m) t) (suc n) n (omega arith) in
    let ceilings = greatest_of-more (ceiling_of v.state) (λ m. holds (owner_of v.state m) t) (suc n) n (omega arith) in
    let fronts = greatest_of-more (λ m. first_prio (queue_at v m)) (λ m. holds (heir_of v.state m) t) (suc n) n (omega arith) in
    omega (arith, owned, ceilings, fronts, given_of (protocol_of v.state (suc n)) (owner_of v.state (suc n)) t (ceiling_of v.state (suc n)) (first_prio (queue_at v (suc n))), given_all v t n)

-- the local priority by the priorities that the owned mutexes give
pub local_by_owned :
    (v : View) (t : ℕ)
    → Ready v
    → max (base_of v.state t) (greatest (map (given v) (owned v.state t))) ≡ local_priority v.state (stored_at v) t
local_by_owned v t ready =
    omega (
      arith,
      given_all v t (length v.state.protocol),
      greatest-cons (base_of v.state t) (map (ceiling_of v.state) (owned v.state t)),
      local_by_mutexes v.state (stored_at v) t ready.waits,
      greatest_of-same (top v.state (stored_at v)) (λ m. first_prio (queue_at v m)) inherits inherits (length v.state.protocol) (λ m. refl) front,
    )
  where
    inherits : ℕ → Bool
    inherits m = holds (heir_of v.state m) t

    front : (m : ℕ) → inherits m ≡ true → top v.state (stored_at v) m ≡ first_prio (queue_at v m)
    front m h =
        let isk = owned_mutex v.state m t ready.sound.lists (heir_in-owner (protocol_of v.state m) (owner_of v.state m) t (from_holds (heir_of v.state m) t h)) in
        top_front v.state (stored_at v) m (queue_at v m) ready.sound.lists (ready.queues m isk)

-- one more mutex
pub greatest_next :
    (f : ℕ → ℕ) (xs ys : List ℕ) (m prio level : ℕ)
    → xs ≡ m ∷ ys
    → level ≡ f m
    → max prio (greatest (map f xs)) ≡ max (max prio level) (greatest (map f ys))
greatest_next f xs ys m prio level is same =
    rw is (omega (arith, greatest-cons (f m) (map f ys), same))
