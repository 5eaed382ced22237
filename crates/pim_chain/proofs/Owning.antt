-- The sets of owned mutexes after a change of one owner.
use Rattle.std.proofs.Common.{◌≡◌, ◌≢◌, ℕ, ◌<◌, ◌≤◌, ◌==◌, ◌&&◌, ◌||◌, false, not, ◌∙◌, subst, arith, Option, Some, None, List, length}
use Rattle.std.proofs.lemmas.Bool.{false_from_ne_true, cases_eq}
use Rattle.pim_base.specs.Lists.{put, holds}
use Rattle.pim_base.specs.State.{IsTask, IsMutex, owner_of, owned as owned_by}
use Rattle.pim_base.proofs.Places.{nth-put_same, nth-put_other}
use Rattle.pim_sets.specs.declared.number_set.NumberSet.{NumberSet}
use Rattle.pim_sets.specs.Numbers.{has, members}
use Rattle.pim_sets.specs.Sets.{words_in, owner_in, AreOwned}
use Rattle.pim_chain.specs.Views.{View, Ready}
use Rattle.pim_chain.specs.Shown.{shown, AreTables}
use Rattle.pim_chain.specs.declared.tables.Tables.TheInside.{Inside}
use Rattle.pim_chain.proofs.Known.{owned_mutex}
use Rattle.pim_base.proofs.Stored.{from_holds}
use Rattle.std.proofs.lemmas.Bool.Decides.{nat_tests}
use Rattle.pim_sets.proofs.Members.{members_known}

-- the mutex has this owner now, which changes what one task owns
owned_put :
    (n : ℕ) (owners : List (Option ℕ)) (sets after : List NumberSet) (m t : ℕ) (o : Option ℕ)
    → 1 ≤ m
    → m ≤ length owners
    → AreOwned n owners sets
    → length after ≡ length sets
    → (1 ≤ t) × (t ≤ n)
    → has (words_in after t) m ≡ holds o t
    → ((k : ℕ) → k ≢ m → has (words_in after t) k ≡ has (words_in sets t) k)
    → ((u : ℕ) → u ≢ t → words_in after u ≡ words_in sets u)
    → ((u : ℕ) → u ≢ t → holds (owner_in owners m) u ≡ holds o u)
    → AreOwned n (put owners m o) after
owned_put n owners sets after m t o low high owned len known mine rest others apart = record {
  len = len ∙ owned.len;
  members = λ u k low_u high_u. grind (
    arith,
    cases_eq u t,
    cases_eq m k,
    nth-put_same owners m o low high,
    nth-put_other owners m k o,
    mine,
    rest k,
    others u,
    apart u,
    owned.members u k low_u high_u,
  );
}

-- ---- as the tables have it
module _ (v u : View) (same : v ≡ u) (ready : Ready v) (sets : List NumberSet)
    (owned : AreOwned (length v.state.base) v.state.owner sets) where
  pub bound_sets :
      (m t : ℕ) (owners : List (Option ℕ)) (after : List NumberSet)
      → IsMutex u.state m
      → owner_of u.state m ≡ None
      → IsTask u.state t
      → owners ≡ put v.state.owner m (Some t)
      → length after ≡ length sets
      → ((k : ℕ) → has (words_in after t) k ≡ (k == m || has (words_in sets t) k))
      → ((x : ℕ) → x ≢ t → words_in after x ≡ words_in sets x)
      → AreOwned (length v.state.base) owners after
  bound_sets m t owners after mutex free task is len inserted others =
      let known : IsMutex v.state m = rw (← same) at mutex in
      let idle : owner_of v.state m ≡ None = rw (← same) at free in
      rw is (owned_put (length v.state.base) v.state.owner sets after m t (Some t) known.0 (omega (arith, known, ready.sound.lists.owners)) owned len
      (rw (← same) at task) (grind (arith, nat_tests, inserted m)) (λ k ne. grind (arith, nat_tests, inserted k, ne)) others
      (λ x ne. grind (arith, nat_tests, idle, ne)))

  owner_here : (m t : ℕ) → owner_of u.state m ≡ Some t → owner_of v.state m ≡ Some t
  owner_here m t mine = rw (← same) at mine

  -- the numbers of a mutex and its owner have a place in the lists
  pub owned_fits : (m t : ℕ) → owner_of u.state m ≡ Some t → (1 ≤ m) × (m ≤ length v.state.owner) × (m < 320) × (1 ≤ t) × (t ≤ length sets)
  owned_fits m t mine =
      let mutex = owned_mutex v.state m t ready.sound.lists (owner_here m t mine) in
      let task = ready.waits.owners m t (owner_here m t mine) in
      omega (arith, mutex, task, ready.sound.lists.owners, ready.few_mutexes, owned.len)

  pub unbound_sets :
      (m t : ℕ) (owners : List (Option ℕ)) (after : List NumberSet)
      → owner_of u.state m ≡ Some t
      → owners ≡ put v.state.owner m None
      → length after ≡ length sets
      → ((k : ℕ) → has (words_in after t) k ≡ (not (k == m) && has (words_in sets t) k))
      → ((x : ℕ) → x ≢ t → words_in after x ≡ words_in sets x)
      → AreOwned (length v.state.base) owners after
  unbound_sets m t owners after mine is len removed others =
      let here = owner_here m t mine in
      let fits = owned_fits m t mine in
      rw is (owned_put (length v.state.base) v.state.owner sets after m t None fits.0 fits.1 owned len (ready.waits.owners m t here)
      (grind (arith, nat_tests, removed m)) (λ k ne. grind (arith, nat_tests, removed k, ne)) others (λ x ne. grind (arith, nat_tests, here, ne)))

-- the numbers of the task's set are the mutexes that it owns
pub owned_members : (x : Inside) (u : View) (t : ℕ) → shown x ≡ u → AreTables x → IsTask u.state t → members (words_in x.owned t) ≡ owned_by u.state t
owned_members x u t same tables known =
    subst (λ (y : View). members (words_in x.owned t) ≡ owned_by y.state t) same
    (members_known (words_in x.owned t) (λ k. holds (owner_of (shown x).state k) t) (length x.protocol.items)
    (omega (arith, tables.ready.few_mutexes)) (tell 0) (λ k _ _. tell k) (λ k past. tell k ∙ unknown k past))
  where
    tell : (k : ℕ) → has (words_in x.owned t) k ≡ holds (owner_of (shown x).state k) t
    tell k = let here : IsTask (shown x).state t = rw (← same) at known in tables.owned.members t k here.0 here.1

    unknown : (k : ℕ) → length x.protocol.items < k → holds (owner_of (shown x).state k) t ≡ false
    unknown k past = false_from_ne_true _ (λ h. absurd (omega (arith, past, owned_mutex (shown x).state k t tables.ready.sound.lists (from_holds (owner_of (shown x).state k) t h))))
