-- The first mutex on a way whose owner gets less than the thread that waits.
use Rattle.std.proofs.Common.{◌≡◌, ℕ, zero, suc, ◌+◌, ◌<◌, ◌≤◌, inl, inr, true, List, ◌∷◌, Option}
use Rattle.std.proofs.Common.{Some, None, length, option_and_then, filter_map, refl, sym, ◌∙◌, ap}
use Rattle.std.proofs.Common.{arith, le_refl, le_trans, cond, nat_lt, unwrap_or}
use Rattle.std.specs.Option.{option_map}
use Rattle.std.proofs.lemmas.Bool.{cases_lt, cond-true, cond-false, lt-ltb, le-ltb}
use Rattle.std.proofs.lemmas.Option.{same_Some, none-some}
use Rattle.pim_base.specs.Lists.{contains, first_item}
use Rattle.pim_base.specs.State.{State, protocol_of, owner_of, wait_of}
use Rattle.pim_base.specs.Chains.{chain, blocker, heir, heir_in}
use Rattle.pim_base.specs.Priorities.{ceiling, ceiling_of}
use Rattle.pim_base.specs.declared.steps.Protocol.{Protocol}
use Rattle.pim_base.specs.declared.steps.Wait.{Wait}
use Rattle.pim_base.proofs.Hops.{hops, hops-add, hops_front, contains-chain_here}
use Rattle.pim_base.proofs.Stored.{own_priority-le-effective_priority, effective_priority-le}
use Rattle.pim_waits.specs.Awaited.{awaited_of}
use Rattle.pim_waits.specs.Waiting.{gets, way, last_item, passes_less}
use Rattle.pim_waits.specs.Whole.{IsWhole}
use Rattle.pim_waits.specs.Laws.{FallsShort, IsToBlame, BlameLaw, BlameExistsLaw, PassesOn}
use Rattle.pim_waits.specs.Laws.{PassingLaw}
use Rattle.pim_waits.proofs.Flowing.{heirs_known}
use Rattle.pim_waits.proofs.Gathering.{Through, through}
use Rattle.pim_waits.proofs.Lists.{contains-later}
use Rattle.pim_waits.proofs.Owning.{ceiling-le-own}
use Rattle.pim_waits.proofs.Runners.{runner_law, runner-last}
use Rattle.pim_waits.proofs.Shorter.{shorter}
use Rattle.pim_waits.proofs.Ways.{last_item-end, last_item-next, first-here, first-end, first-next}

-- ---- what an heir gets

-- an heir gets no less than the thread that it inherits from
pub gets-le-heir : (S : State) (u v : ℕ) → IsWhole S → heir S u ≡ Some v → gets S u ≤ gets S v
gets-le-heir S u v whole e =
    effective_priority-le S u (gets S v)
    (λ w k task le at.
    let long : hops (heir S) (k + 1) w ≡ Some v =
    hops-add (heir S) k 1 w u at ∙ hops_front (heir S) 0 u v e in
    let short = shorter
    (heir S) (length S.base) (heirs_known S whole) (k + 1) (k + 1) w v (omega arith) long in
    own_priority-le-effective_priority S w v short.0 task short.1 short.2)

-- an owner gets no less than the ceiling of its mutex
pub ceiling-le-gets :
    (S : State) (m v : ℕ)
    → IsWhole S
    → owner_of S m ≡ Some v
    → ceiling_of S m ≤ gets S v
ceiling-le-gets S m v whole owner =
    le_trans (ceiling-le-own S m v whole owner)
    (own_priority-le-effective_priority S v v 0 (whole.owners m v owner) (omega arith) refl)

heir-inherit :
    (S : State) (u m v : ℕ)
    → awaited_of S u ≡ Some m
    → owner_of S m ≡ Some v
    → heir_in (protocol_of S m) (Some v) ≡ Some v
    → heir S u ≡ Some v
heir-inherit S u m v awaits owner inherits = go (wait_of S u) refl awaits
  where
    go :
        (w : Option Wait)
        → wait_of S u ≡ w
        → option_map (λ (w : Wait). w.mutex) w ≡ Some m
        → heir S u ≡ Some v
    go None is h = cc
    go (Some w) is h =
        let same : w.mutex ≡ m = same_Some w.mutex m h in
        ap (option_and_then (λ (w : Wait). heir_in (protocol_of S w.mutex) (owner_of S w.mutex))) is
        ∙ ap (λ k. heir_in (protocol_of S k) (owner_of S k)) same
        ∙ ap (heir_in (protocol_of S m)) owner
        ∙ inherits

-- a mutex whose owner gets less than this, and less than the thread that awaits it, doesn't pass
-- this on
falls_short :
    (S : State) (level u m v : ℕ)
    → IsWhole S
    → awaited_of S u ≡ Some m
    → owner_of S m ≡ Some v
    → gets S v < level
    → gets S v < gets S u
    → FallsShort level (protocol_of S m)
falls_short S level u m v whole awaits owner below less = go (protocol_of S m) refl
  where
    inherits : heir_in (protocol_of S m) (Some v) ≡ Some v → ⊥
    inherits h = omega (arith, less, gets-le-heir S u v whole (heir-inherit S u m v awaits owner h))

    go : (p : Protocol) → protocol_of S m ≡ p → FallsShort level p
    go Protocol.None is = tt
    go Protocol.Inherit is = inherits (ap (λ p. heir_in p (Some v)) is)
    go Protocol.InheritRecursive is = inherits (ap (λ p. heir_in p (Some v)) is)
    go (Protocol.Protect c) is =
        let same : ceiling_of S m ≡ c = ap (λ p. unwrap_or (ceiling p) 0) is in
        omega (arith, same, below, ceiling-le-gets S m v whole owner)

-- ---- the walk along a way

-- the mutex at which a walk stops: its owner gets less than this, and the thread that awaits it
-- doesn't
record StopsAt (S : State) (level : ℕ) (ts : List ℕ) (m : ℕ) : Type 0 where
  waiter : ℕ
  owner : ℕ
  on_way : contains ts waiter ≡ true
  awaits : awaited_of S waiter ≡ Some m
  owns : owner_of S m ≡ Some owner
  below : gets S owner < level
  least : level ≤ gets S waiter

later :
    (S : State) (level x : ℕ) (ts : List ℕ) (m : ℕ)
    → StopsAt S level ts m
    → StopsAt S level (x ∷ ts) m
later S level x ts m stops = record {
  waiter = stops.waiter;
  owner = stops.owner;
  on_way = contains-later x ts stops.waiter stops.on_way;
  awaits = stops.awaits;
  owns = stops.owns;
  below = stops.below;
  least = stops.least;
}

module _ (S : State) (level : ℕ) where
  -- the mutex that a thread awaits, if v gets less than this
  abbrev if_less : ℕ → ℕ → Option ℕ
  if_less u v = cond (nat_lt (gets S v) level) (awaited_of S u) None

  less-none : (u : ℕ) → blocker S u ≡ None → passes_less S level u ≡ None
  less-none u e = ap (option_and_then (if_less u)) e

  less-some :
      (u v : ℕ)
      → blocker S u ≡ Some v
      → gets S v < level
      → passes_less S level u ≡ awaited_of S u
  less-some u v e less =
      ap (option_and_then (if_less u)) e
      ∙ cond-true _ (awaited_of S u) None (lt-ltb (gets S v) level less)

  less-enough : (u v : ℕ) → blocker S u ≡ Some v → level ≤ gets S v → passes_less S level u ≡ None
  less-enough u v e enough =
      ap (option_and_then (if_less u)) e
      ∙ cond-false _ (awaited_of S u) None (le-ltb (gets S v) level enough)

  abbrev first_less : ℕ → ℕ → Option ℕ
  first_less n x = first_item (filter_map (passes_less S level) (chain (blocker S) n x))

  first-alone : (x : ℕ) → passes_less S level x ≡ None → first_less 0 x ≡ None
  first-alone x e = rw e refl

  blames_here :
      (n x m v : ℕ)
      → level ≤ gets S x
      → blocker S x ≡ Some v
      → gets S v < level
      → first_less n x ≡ Some m
      → StopsAt S level (chain (blocker S) n x) m
  blames_here n x m v least to below e =
      let hop : Through S x v = through S x v to in
      let found : first_less n x ≡ Some hop.mutex =
      first-here
      (passes_less S level) (blocker S) n x hop.mutex (less-some x v to below ∙ hop.awaits) in
      let same : hop.mutex ≡ m = same_Some hop.mutex m (sym found ∙ e) in
      record {
        waiter = x;
        owner = v;
        on_way = contains-chain_here (blocker S) n x x refl;
        awaits = hop.awaits ∙ ap Some same;
        owns = ap (owner_of S) (sym same) ∙ hop.owner;
        below = below;
        least = least;
      }

  -- where a walk from x stops, if that is known of a walk that goes on
  stops_if :
      (n x m : ℕ)
      → level ≤ gets S x
      → ((v : ℕ)
      → blocker S x ≡ Some v → level ≤ gets S v → StopsAt S level (chain (blocker S) n x) m)
      → first_less n x ≡ Some m
      → StopsAt S level (chain (blocker S) n x) m
  stops_if n x m least further e = go (blocker S x) refl
    where
      go : (o : Option ℕ) → blocker S x ≡ o → StopsAt S level (chain (blocker S) n x) m
      go None to =
          absurd (none-some m
          (sym (first-end (passes_less S level) (blocker S) n x (less-none x to) to) ∙ e))
      go (Some v) to = elim (cases_lt (gets S v) level) [
        | inl below ↦ blames_here n x m v least to below e
        | inr enough ↦ further v to enough
      ]

  -- the first mutex that passes less is one at which a walk stops
  stops_at :
      (n x m : ℕ)
      → level ≤ gets S x
      → first_less n x ≡ Some m
      → StopsAt S level (chain (blocker S) n x) m
  stops_at zero x m least e =
      stops_if zero x m least
      (λ v to enough. absurd (none-some m (sym (first-alone x (less-enough x v to enough)) ∙ e))) e
  stops_at (suc n) x m least e =
      stops_if (suc n) x m least
      (λ v to enough.
      let next = first-next
      (passes_less S level) (blocker S) (suc n) n x v refl (less-enough x v to enough) to in
      let rest : StopsAt S level (x ∷ chain (blocker S) n v) m =
      later S level x _ m (stops_at n v m enough (sym next ∙ e)) in
      rw to rest) e

  abbrev Stops : ℕ → ℕ → Type 0
  Stops n x = (m : ℕ) × (first_less n x ≡ Some m)

  -- a walk to a last thread that gets less stops before, if that is known of a walk that goes on
  stops_before_if :
      (n x r : ℕ)
      → level ≤ gets S x
      → last_item (chain (blocker S) n x) ≡ Some r
      → gets S r < level
      → ((v : ℕ) → blocker S x ≡ Some v → level ≤ gets S v → Stops n x)
      → Stops n x
  stops_before_if n x r least last below further = go (blocker S x) refl
    where
      go : (o : Option ℕ) → blocker S x ≡ o → Stops n x
      go None to =
          let same : gets S x ≡ gets S r =
          ap (gets S) (same_Some x r (sym (last_item-end (blocker S) n x to) ∙ last)) in
          absurd (omega (arith, same, least, below))
      go (Some v) to = elim (cases_lt (gets S v) level) [
        | inl less ↦
            let hop : Through S x v = through S x v to in (
              hop.mutex,
              first-here (passes_less S level)
                  (blocker S) n x hop.mutex (less-some x v to less ∙ hop.awaits),
            )
        | inr enough ↦ further v to enough
      ]

  stops_before :
      (n x r : ℕ)
      → level ≤ gets S x
      → last_item (chain (blocker S) n x) ≡ Some r
      → blocker S r ≡ None
      → gets S r < level
      → Stops n x
  stops_before zero x r least last free below =
      stops_before_if zero x r least last below
      (λ v to enough.
      absurd (none-some v (sym free ∙ ap (blocker S) (sym (same_Some x r last)) ∙ to)))
  stops_before (suc n) x r least last free below =
      stops_before_if (suc n) x r least last below
      (λ v to enough.
      let rest = stops_before n v r enough
      (sym (last_item-next (blocker S) (suc n) n x v refl to) ∙ last) free below in (
        rest.0,
        first-next (passes_less S level)
            (blocker S) (suc n) n x v refl (less-enough x v to enough) to ∙ rest.1,
      ))

-- ---- the laws

pub blame_law : BlameLaw
blame_law S t m whole e =
    let s : StopsAt S (gets S t) (way S t) m =
    stops_at S (gets S t) (length S.base) t m (le_refl (gets S t)) e in
    let less : gets S s.owner < gets S s.waiter = omega (arith, s.below, s.least) in
    record {
      waiter = s.waiter;
      owner = s.owner;
      on_way = s.on_way;
      awaits = s.awaits;
      owns = s.owns;
      below = s.below;
      less = less;
      protocol = falls_short S (gets S t) s.waiter m s.owner whole s.awaits s.owns s.below less;
    }

pub blame_exists_law : BlameExistsLaw
blame_exists_law S t low =
    stops_before S
    (gets S t) (length S.base) t low.0 (le_refl (gets S t)) (runner-last S t low.0 low.1).0
    (runner_law S t low.0 low.1).free low.2

pass_apart : (level : ℕ) (p : Protocol) → PassesOn level p → FallsShort level p → ⊥
pass_apart level Protocol.None on short = on
pass_apart level Protocol.Inherit on short = short
pass_apart level Protocol.InheritRecursive on short = short
pass_apart level (Protocol.Protect c) on short = absurd (omega (arith, on, short))

pub passing_law : PassingLaw
passing_law S t u whole passes e = elim (cases_lt (gets S u) (gets S t)) [
  | inr enough ↦ enough
  | inl low ↦
      let blamed = blame_exists_law S t (u, e, low) in
      let b : IsToBlame S t blamed.0 = blame_law S t blamed.0 whole blamed.1 in
      absurd (pass_apart (gets S t) (protocol_of S blamed.0)
      (passes b.waiter blamed.0 b.owner b.on_way b.awaits b.owns) b.protocol)
]
