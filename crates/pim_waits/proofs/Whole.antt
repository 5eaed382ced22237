-- What a change leaves in order.
use Rattle.std.proofs.Common.{◌≡◌, ℕ, suc, ◌==◌, Bool, true, false, cond, List, [], ◌∷◌, ◌++◌}
use Rattle.std.proofs.Common.{length, Option, Some, None, IfSome, refl, sym, ◌∙◌, ap, inl, inr}
use Rattle.std.proofs.Common.{arith, unwrap_or}
use Rattle.std.specs.Option.{option_map}
use Rattle.std.proofs.lemmas.Bool.{cases_eq, ne_eqb, eq-eqb}
use Rattle.std.proofs.lemmas.List.{length-append}
use Rattle.pim_base.specs.Lists.{nth, put}
use Rattle.pim_base.specs.State.{State, IsTask, owner_of, wait_of, with_count, with_owner}
use Rattle.pim_base.specs.State.{with_wait}
use Rattle.pim_base.specs.declared.steps.Protocol.{Protocol}
use Rattle.pim_base.specs.declared.steps.Wait.{Wait}
use Rattle.pim_base.proofs.Places.{nth-put_same, nth-put_other, length-put, nth_within}
use Rattle.pim_waits.specs.Added.{with_thread, with_mutex}
use Rattle.pim_waits.specs.Groups.{IsBy, moved}
use Rattle.pim_waits.specs.declared.groups.Groups.{Groups}
use Rattle.pim_waits.specs.Model.{wait_for}
use Rattle.pim_waits.specs.Awaited.{awaited_of}
use Rattle.pim_waits.specs.Shown.{AreListed}
use Rattle.pim_waits.specs.Whole.{IsWhole}
use Rattle.pim_waits.proofs.Lists.{nth-push_none}

pub length-push : {X : Type 0} (xs : List X) (x : X) → length (xs ++ x ∷ []) ≡ suc (length xs)
length-push xs x = omega (arith, length-append xs (x ∷ []))

-- what an option at a place is after a write
pub option-put :
    {X : Type 0} (xs : List (Option X)) (n k : ℕ) (o : Option X) (x : X)
    → unwrap_or (nth (put xs n o) k) None ≡ Some x
    → cond (k == n) o (unwrap_or (nth xs k) None) ≡ Some x
option-put {X = X} xs n k o x e = elim (cases_eq k n) [
  | inr ne ↦ rw (ne_eqb k n ne)
      (ap (λ v. unwrap_or v None) (sym (nth-put_other xs n k o (λ h. ne (sym h)))) ∙ e)
  | inl same ↦ rw (eq-eqb k n same) (here
      (nth (put xs n o) n) refl (ap (λ j. unwrap_or (nth (put xs n o) j) None) (sym same) ∙ e))
]
  where
    here : (v : Option (Option X)) → nth (put xs n o) n ≡ v → unwrap_or v None ≡ Some x → o ≡ Some x
    here None is h = cc
    here (Some y) is h =
        let fits = nth_within (put xs n o) n y is in
        let same = nth-put_same xs n o fits.0 (omega (arith, fits, length-put xs n o)) in
        cc

-- states with the same lists
pub same_state :
    {S T : State}
    → S.base ≡ T.base
    → S.protocol ≡ T.protocol
    → S.owner ≡ T.owner
    → S.count ≡ T.count
    → S.wait ≡ T.wait
    → S.next ≡ T.next
    → S ≡ T
same_state b p o c w n =
    λ i. record { base = b i; protocol = p i; owner = o i; count = c i; wait = w i; next = n i }

-- ---- one thread more
pub whole_thread : (S : State) (level : ℕ) → IsWhole S → IsWhole (with_thread S level)
whole_thread S level whole = record {
  lists = record {
    waits = length-push S.wait None ∙ ap suc whole.lists.waits ∙ sym (length-push S.base level);
    owners = whole.lists.owners;
    counts = whole.lists.counts;
  };
  owners = λ m t e. let task = whole.owners m t e in omega (arith, task, length-push S.base level);
}

pub wait-thread : (S : State) (level t : ℕ) → wait_of (with_thread S level) t ≡ wait_of S t
wait-thread S level t = nth-push_none S.wait t

pub listed_thread :
    (S : State) (owned waiting : Groups) (level : ℕ)
    → AreListed S owned waiting
    → AreListed (with_thread S level) owned waiting
listed_thread S owned waiting level listed = record {
  whole = whole_thread S level listed.whole;
  owned = listed.owned;
  waiting =
      λ t m e. listed.waiting t m
      (ap (option_map (λ (w : Wait). w.mutex)) (sym (wait-thread S level t)) ∙ e);
}

-- ---- one mutex more
pub owner-mutex : (S : State) (p : Protocol) (m : ℕ) → owner_of (with_mutex S p) m ≡ owner_of S m
owner-mutex S p m = nth-push_none S.owner m

pub whole_mutex : (S : State) (p : Protocol) → IsWhole S → IsWhole (with_mutex S p)
whole_mutex S p whole = record {
  lists = record {
    waits = whole.lists.waits;
    owners = length-push S.owner None ∙ ap suc whole.lists.owners ∙ sym (length-push S.protocol p);
    counts = length-push S.count 0 ∙ ap suc whole.lists.counts ∙ sym (length-push S.protocol p);
  };
  owners = λ m t e. whole.owners m t (sym (owner-mutex S p m) ∙ e);
}

pub listed_mutex :
    (S : State) (owned waiting : Groups) (p : Protocol)
    → AreListed S owned waiting
    → AreListed (with_mutex S p) owned waiting
listed_mutex S owned waiting p listed = record {
  whole = whole_mutex S p listed.whole;
  owned = λ m t e. listed.owned m t (sym (owner-mutex S p m) ∙ e);
  waiting = listed.waiting;
}

-- ---- another count
pub whole_count : (S : State) (m k : ℕ) → IsWhole S → IsWhole (with_count S m k)
whole_count S m k whole = record {
  lists =
      record {
        waits = whole.lists.waits;
        owners = whole.lists.owners;
        counts = length-put S.count m k ∙ whole.lists.counts;
      };
  owners = whole.owners;
}

-- ---- another owner
pub owner-put :
    (S : State) (m k : ℕ) (o : Option ℕ) (t : ℕ)
    → owner_of (with_owner S m o) k ≡ Some t
    → moved (owner_of S) m o k ≡ Some t
owner-put S m k o t e = option-put S.owner m k o t e

owner_known : (S : State) (o : Option ℕ) (t : ℕ) → IfSome o (IsTask S) → o ≡ Some t → IsTask S t
owner_known S None t known e = cc
owner_known S (Some u) t known e = let same : u ≡ t = cc in rw (← same) known

pub listed_owner :
    (S : State) (owned after waiting : Groups) (m : ℕ) (o : Option ℕ)
    → IfSome o (IsTask S)
    → AreListed S owned waiting
    → IsBy after (moved (owner_of S) m o)
    → AreListed (with_owner S m o) after waiting
listed_owner S owned after waiting m o known listed by = record {
  whole = record {
    lists = record {
      waits = listed.whole.lists.waits;
      owners = length-put S.owner m o ∙ listed.whole.lists.owners;
      counts = length-put S.count m _ ∙ listed.whole.lists.counts;
    };
    owners = λ k t e. owners k t (owner-put S m k o t e);
  };
  owned = λ k t e. by k t (owner-put S m k o t e);
  waiting = listed.waiting;
}
  where
    owners : (k t : ℕ) → moved (owner_of S) m o k ≡ Some t → IsTask S t
    owners k t e = elim (cases_eq k m) [
      | inl same ↦
          owner_known S o t known (sym (ap (λ b. cond b o (owner_of S k)) (eq-eqb k m same)) ∙ e)
      | inr ne ↦
          listed.whole.owners k t (sym (ap (λ b. cond b o (owner_of S k)) (ne_eqb k m ne)) ∙ e)
    ]

-- ---- another wait
awaited-put :
    (S : State) (t u : ℕ) (w : Option Wait) (m : ℕ)
    → awaited_of (with_wait S t w) u ≡ Some m
    → moved (awaited_of S) t (option_map (λ (w : Wait). w.mutex) w) u ≡ Some m
awaited-put S t u w m e = go (wait_of (with_wait S t w) u) refl e
  where
    mutex : Option Wait → Option ℕ
    mutex = option_map (λ (w : Wait). w.mutex)

    go :
        (v : Option Wait)
        → wait_of (with_wait S t w) u ≡ v
        → mutex v ≡ Some m
        → moved (awaited_of S) t (mutex w) u ≡ Some m
    go None is h = cc
    go (Some x) is h = push (u == t) (option-put S.wait t u w x is)
      where
        push :
            (b : Bool)
            → cond b w (wait_of S u) ≡ Some x
            → cond b (mutex w) (mutex (wait_of S u)) ≡ Some m
        push true e = ap mutex e ∙ h
        push false e = ap mutex e ∙ h

pub listed_wait :
    (S : State) (owned waiting after : Groups) (t : ℕ) (w : Option Wait)
    → AreListed S owned waiting
    → IsBy after (moved (awaited_of S) t (option_map (λ (w : Wait). w.mutex) w))
    → AreListed (with_wait S t w) owned after
listed_wait S owned waiting after t w listed by = record {
  whole = record {
    lists = record {
      waits = length-put S.wait t w ∙ listed.whole.lists.waits;
      owners = listed.whole.lists.owners;
      counts = listed.whole.lists.counts;
    };
    owners = listed.whole.owners;
  };
  owned = listed.owned;
  waiting = λ u m e. by u m (awaited-put S t u w m e);
}

pub mutex-wait_for : (o : Option ℕ) → option_map (λ (w : Wait). w.mutex) (option_map wait_for o) ≡ o
mutex-wait_for None = refl
mutex-wait_for (Some m) = refl
