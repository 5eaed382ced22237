-- What a change of owners, waits, levels and ceilings leaves in order.
use Rattle.std.proofs.Common.{◌≡◌, ℕ, Bool, true, false, cond, length, Option, Some, None, IfSome}
use Rattle.std.proofs.Common.{is_some, nat_lt, inl, inr, refl, sym, ◌∙◌, ap, subst, arith}
use Rattle.std.specs.Prelude.{◌+◌, ◌-◌}
use Rattle.std.proofs.lemmas.Bool.{cases_eq, ne_eqb, eq-eqb}
use Rattle.std.proofs.lemmas.Option.{same_Some}
use Rattle.pim_base.specs.State.{State, IsTask, owner_of, count_of, with_wait, with_owner}
use Rattle.pim_base.specs.State.{with_count, with_base, with_ceiling}
use Rattle.pim_base.specs.declared.steps.Protocol.{Protocol}
use Rattle.pim_base.specs.declared.steps.Wait.{Wait}
use Rattle.pim_base.proofs.Places.{length-put}
use Rattle.pim_waits.specs.Groups.{moved}
use Rattle.pim_waits.specs.Whole.{IsWhole}
use Rattle.pim_waits.proofs.Whole.{owner-put, whole_count}
use Rattle.pim_world.specs.After.{locked, unlocked}

-- of as many threads and mutexes, and whole
pub record IsLike (S T : State) : Type 0 where
  pub whole : IsWhole T
  pub tasks : length T.base ≡ length S.base
  pub mutexes : length T.protocol ≡ length S.protocol

pub like_wait : (S : State) (t : ℕ) (w : Option Wait) → IsWhole S → IsLike S (with_wait S t w)
like_wait S t w whole = record {
  whole = record {
    lists = record {
      waits = length-put S.wait t w ∙ whole.lists.waits;
      owners = whole.lists.owners;
      counts = whole.lists.counts;
    };
    owners = whole.owners;
  };
  tasks = refl;
  mutexes = refl;
}

pub like_base : (S : State) (t level : ℕ) → IsWhole S → IsLike S (with_base S t level)
like_base S t level whole = record {
  whole = record {
    lists = record {
      waits = whole.lists.waits ∙ sym (length-put S.base t level);
      owners = whole.lists.owners;
      counts = whole.lists.counts;
    };
    owners =
        λ m u e. let task = whole.owners m u e in omega (arith, task, length-put S.base t level);
  };
  tasks = length-put S.base t level;
  mutexes = refl;
}

pub like_ceiling : (S : State) (m c : ℕ) → IsWhole S → IsLike S (with_ceiling S m c)
like_ceiling S m c whole =
    let same : length (with_ceiling S m c).protocol ≡ length S.protocol =
    length-put S.protocol m (Protocol.Protect c) in
    record {
      whole = record {
        lists = record {
          waits = whole.lists.waits;
          owners = whole.lists.owners ∙ sym same;
          counts = whole.lists.counts ∙ sym same;
        };
        owners = whole.owners;
      };
      tasks = refl;
      mutexes = same;
    }

known : (S : State) (o : Option ℕ) (t : ℕ) → IfSome o (IsTask S) → o ≡ Some t → IsTask S t
known S None t is e = cc
known S (Some u) t is e = subst (IsTask S) (same_Some u t e) is

pub like_owner :
    (S : State) (m : ℕ) (o : Option ℕ)
    → IfSome o (IsTask S)
    → IsWhole S
    → IsLike S (with_owner S m o)
like_owner S m o is whole = record {
  whole = record {
    lists = record {
      waits = whole.lists.waits;
      owners = length-put S.owner m o ∙ whole.lists.owners;
      counts = length-put S.count m _ ∙ whole.lists.counts;
    };
    owners = λ k t e. owners k t (owner-put S m k o t e);
  };
  tasks = refl;
  mutexes = refl;
}
  where
    owners : (k t : ℕ) → moved (owner_of S) m o k ≡ Some t → IsTask S t
    owners k t e = elim (cases_eq k m) [
      | inl same ↦ known S o t is (sym (ap (λ b. cond b o (owner_of S k)) (eq-eqb k m same)) ∙ e)
      | inr ne ↦ whole.owners k t (sym (ap (λ b. cond b o (owner_of S k)) (ne_eqb k m ne)) ∙ e)
    ]

like_count : (S : State) (m k : ℕ) → IsWhole S → IsLike S (with_count S m k)
like_count S m k whole = record { whole = whole_count S m k whole; tasks = refl; mutexes = refl }

pub like_locked : (S : State) (t m : ℕ) → IsTask S t → IsWhole S → IsLike S (locked S t m)
like_locked S t m task whole = go (is_some (owner_of S m))
  where
    go :
        (b : Bool)
        → IsLike S (cond b (with_count S m (count_of S m + 1)) (with_owner S m (Some t)))
    go true = like_count S m _ whole
    go false = like_owner S m (Some t) task whole

pub like_unlocked : (S : State) (m : ℕ) → IsWhole S → IsLike S (unlocked S m)
like_unlocked S m whole = go (nat_lt 1 (count_of S m))
  where
    go : (b : Bool) → IsLike S (cond b (with_count S m (count_of S m - 1)) (with_owner S m None))
    go true = like_count S m _ whole
    go false = like_owner S m None tt whole

pub like_then : (S T U : State) → IsLike S T → IsLike T U → IsLike S U
like_then S T U one two = record {
  whole = two.whole;
  tasks = two.tasks ∙ one.tasks;
  mutexes = two.mutexes ∙ one.mutexes;
}
