-- No step makes a cycle of waits.
use Rattle.std.proofs.lemmas.Grind.{common_steps}
use Rattle.std.proofs.Common.{◌≡◌, ℕ, zero, suc, false, ◌⊎◌, inl, inr, List, [], ◌∷◌, length, Option, Some, None, refl, sym, ◌∙◌, ap, arith, option_and_then, unwrap_or, set, slice_get, true≢false, rules}
use Rattle.std.proofs.lemmas.Bool.Decides.{eqb_tells}
use Rattle.pim_base.specs.Lists.{nth, put}
use Rattle.pim_base.specs.State.{State, IsTask, owner_of, wait_of, first_count, with_owner, with_count, with_wait, with_base, with_protocol, queued}
use Rattle.pim_base.specs.Chains.{blocker, HasCycle, leads_back}
use Rattle.pim_base.specs.Queues.{first_of}
use Rattle.pim_base.specs.Steps.{hand_over, hand_over_to}
use Rattle.pim_base.specs.Laws.{IsSound, NoCycleLaw}
use Rattle.pim_base.specs.declared.steps.Protocol.{Protocol}
use Rattle.pim_base.specs.declared.steps.Wait.{Wait}
use Rattle.pim_base.specs.declared.steps.Waiter.{Waiter}
use Rattle.pim_base.proofs.Hops.{hops, first_hop, hops_front, NoneReturns}
pub use Rattle.pim_base.proofs.Kept.{idle_from_tests, known_from_tests}
use Rattle.pim_base.proofs.Kept.{IsKeptBySteps, kept_by_step}
use Rattle.pim_base.proofs.Places.{nth-put_other, length-put}
use Rattle.pim_base.proofs.Closing.{none_returns, returns_from_cycle, leads_back-cycle}

-- the hop from x, if there is one, leads to a task that doesn't hop
abbrev Ends : (ℕ → Option ℕ) → ℕ → Type 0
Ends hop x = (y : ℕ) → hop x ≡ Some y → hop y ≡ None

pub none-some : {y : ℕ} → None ≡ Some y → ⊥
none-some e = cc

-- a way of the other that goes on is one of `hop`
old_way :
    (hop again : ℕ → Option ℕ)
    → ((x : ℕ) → (again x ≡ hop x) ⊎ Ends again x)
    → (k x y z : ℕ)
    → hops again k x ≡ Some y
    → again y ≡ Some z
    → hops hop k x ≡ Some y
old_way hop again change zero x y z e on = e
old_way hop again change (suc k) x y z e on =
    let f = first_hop again k x y e in
    elim (change x) [
      | inl same ↦ hops_front hop k x f.0 (sym same ∙ f.1) ∙ old_way hop again change k f.0 y z f.2 on
      | inr ends ↦ absurd (stops k f.0 (ends f.0 f.1) f.2)
    ]
  where
    stops : (k v : ℕ) → again v ≡ None → hops again k v ≡ Some y → ⊥
    stops zero v none e = let same : v ≡ y = cc in none-some (sym none ∙ ap again same ∙ on)
    stops (suc k) v none e = let f = first_hop again k v y e in none-some (sym none ∙ f.1)

-- no chain returns if each hop is an old one or leads to an end
none_returns_still :
    (hop again : ℕ → Option ℕ) (n : ℕ)
    → NoneReturns hop n
    → ((x : ℕ) → (again x ≡ hop x) ⊎ Ends again x)
    → NoneReturns again n
none_returns_still hop again n acyclic change t k le e =
    let f = first_hop again k t t e in acyclic t k le (old_way hop again change (suc k) t t f.0 e f.1)

-- there is no cycle of waits if each blocker is an old one or leads to an end
no_cycle_still :
    (S S' : State)
    → length S'.base ≡ length S.base
    → ((x : ℕ) → (blocker S' x ≡ blocker S x) ⊎ Ends (blocker S') x)
    → ¬ HasCycle S
    → ¬ HasCycle S'
no_cycle_still S S' bases change acyclic (t, h) =
    let r = returns_from_cycle (blocker S') (length S'.base) t h in
    none_returns_still (blocker S) (blocker S') (length S.base) (none_returns S acyclic) change t r.0 (omega (arith, r.1, bases)) r.2

unwrap_or-set_same :
    {X : Type 0} (xs : List (Option X)) (i : ℕ) (o : Option X)
    → (unwrap_or (slice_get (set xs i o) i) None ≡ o) ⊎ (unwrap_or (slice_get (set xs i o) i) None ≡ None)
unwrap_or-set_same [] i o = inr refl
unwrap_or-set_same (x ∷ xs) zero o = inl refl
unwrap_or-set_same (x ∷ xs) (suc i) o = unwrap_or-set_same xs i o

pub unwrap_or-put_same :
    {X : Type 0} (xs : List (Option X)) (n : ℕ) (o : Option X)
    → (unwrap_or (nth (put xs n o) n) None ≡ o) ⊎ (unwrap_or (nth (put xs n o) n) None ≡ None)
unwrap_or-put_same xs n o = grind (arith, unwrap_or-set_same)

pub idle_now : (S : State) (t : ℕ) → wait_of (with_wait S t None) t ≡ None
idle_now S t = elim (unwrap_or-put_same S.wait t None) [ inl h ↦ h | inr h ↦ h ]

-- a mutex goes to a task that doesn't wait, or to none
pub owner_sound :
    (S : State) (m : ℕ) (o : Option ℕ)
    → ((t : ℕ) → o ≡ Some t → wait_of S t ≡ None)
    → IsSound S
    → IsSound (with_owner S m o)
owner_sound S m o idle ok = record {
  lists = record {
    waits = ok.lists.waits;
    owners = length-put S.owner m o ∙ ok.lists.owners;
    counts = length-put S.count m (first_count o) ∙ ok.lists.counts;
  };
  no_cycle = no_cycle_still S (with_owner S m o) refl (λ x. go x (wait_of S x) refl) ok.no_cycle;
}
  where
    hop_of : Option Wait → Option ℕ
    hop_of = option_and_then (λ (w : Wait). owner_of (with_owner S m o) w.mutex)

    go :
        (x : ℕ) (v : Option Wait)
        → wait_of S x ≡ v
        → (hop_of v ≡ option_and_then (λ (w : Wait). owner_of S w.mutex) v) ⊎ Ends (blocker (with_owner S m o)) x
    go x None e = inl refl
    go x (Some w) e = elim (eqb_tells m w.mutex) [
      | inl here ↦ inr (λ y h.
          let at : owner_of (with_owner S m o) m ≡ Some y =
          ap (owner_of (with_owner S m o)) here.1 ∙ sym (ap hop_of e) ∙ h in
          ap hop_of (idle y (elim (unwrap_or-put_same S.owner m o) [ inl is_o ↦ sym is_o ∙ at | inr none ↦ absurd (none-some (sym none ∙ at)) ])))
      | inr other ↦ inl (ap (λ v. unwrap_or v None) (nth-put_other S.owner m w.mutex o other.1))
    ]

-- a task stops waiting
pub idle_sound : (S : State) (t : ℕ) → IsSound S → IsSound (with_wait S t None)
idle_sound S t ok = record {
  lists = record { waits = length-put S.wait t None ∙ ok.lists.waits; owners = ok.lists.owners; counts = ok.lists.counts };
  no_cycle = no_cycle_still S (with_wait S t None) refl change ok.no_cycle;
}
  where
    hop_of : Option Wait → Option ℕ
    hop_of = option_and_then (λ (w : Wait). owner_of S w.mutex)

    change : (x : ℕ) → (blocker (with_wait S t None) x ≡ blocker S x) ⊎ Ends (blocker (with_wait S t None)) x
    change x = elim (eqb_tells t x) [
      | inl here ↦ inr (λ y h. absurd (none-some (sym (ap hop_of (idle_now S t)) ∙ ap (blocker (with_wait S t None)) here.1 ∙ h)))
      | inr other ↦ inl (ap (λ v. hop_of (unwrap_or v None)) (nth-put_other S.wait t x None other.1))
    ]

pub base_sound : (S : State) (t p : ℕ) → IsSound S → IsSound (with_base S t p)
base_sound S t p ok = search rules

pub protocol_sound : (S : State) (m : ℕ) (p : Protocol) → IsSound S → IsSound (with_protocol S m p)
protocol_sound S m p ok = record {
  lists =
      let protocols = sym (length-put S.protocol m p) in
      record { waits = ok.lists.waits; owners = ok.lists.owners ∙ protocols; counts = ok.lists.counts ∙ protocols };
  no_cycle = ok.no_cycle;
}

-- a mutex is locked more or less often
pub count_sound : (S : State) (m k : ℕ) → IsSound S → IsSound (with_count S m k)
count_sound S m k ok = record {
  lists = record { waits = ok.lists.waits; owners = ok.lists.owners; counts = length-put S.count m k ∙ ok.lists.counts };
  no_cycle = ok.no_cycle;
}

pub queued_sound :
    (S : State) (t m : ℕ)
    → IsTask S t
    → wait_of S t ≡ None
    → leads_back S t m ≡ false
    → IsSound S
    → IsSound (queued S t m)
queued_sound S t m task idle open' ok = record {
  lists = record {
    waits = length-put S.wait t (Some (record { mutex = m; ticket = S.next })) ∙ ok.lists.waits;
    owners = ok.lists.owners;
    counts = ok.lists.counts;
  };
  no_cycle = λ h. true≢false (sym ((leads_back-cycle S t m S.next ok.lists ok.no_cycle task idle).1 h) ∙ open');
}

pub hand_sound : (S : State) (m : ℕ) → IsSound S → IsSound (hand_over S m)
hand_sound S m ok = go (first_of S m)
  where
    go : (o : Option Waiter) → IsSound (hand_over_to S m o)
    go None = owner_sound S m None (λ t e. absurd (none-some e)) ok
    go (Some w) =
        owner_sound (with_wait S w.task None) m (Some w.task)
        (λ t e. let same : w.task ≡ t = cc in ap (wait_of (with_wait S w.task None)) (sym same) ∙ idle_now S w.task)
        (idle_sound S w.task ok)

pub sound_kept : IsKeptBySteps IsSound
sound_kept = grind (arith, common_steps, owner_sound, count_sound, queued_sound, hand_sound, idle_sound, protocol_sound)

pub no_cycle_law : NoCycleLaw
no_cycle_law S step ok = kept_by_step IsSound sound_kept S step ok
