-- The lists for places, as a number moves from one to another.
use Rattle.std.proofs.Common.{◌≡◌, ℕ, ◌==◌, ◌++◌, ◌∷◌, [], not, true, cond, Option, Some, None, sym}
use Rattle.std.proofs.Common.{◌∙◌, ap, inl, inr}
use Rattle.std.specs.List.{filter}
use Rattle.std.proofs.lemmas.Bool.{cases_eq, ne_eqb, eq-eqb}
use Rattle.pim_base.specs.Lists.{contains}
use Rattle.pim_waits.specs.declared.groups.Groups.{Groups}
use Rattle.pim_waits.specs.Groups.{group_of, IsBy, moved}
use Rattle.pim_waits.proofs.Lists.{contains-left, contains-push, contains-without}

-- no number less than before, and this one more
pub record HasMore (old new : Groups) (number : ℕ) (to : Option ℕ) : Type 0 where
  pub kept :
      (place n : ℕ)
      → contains (group_of old place) n ≡ true
      → contains (group_of new place) n ≡ true
  pub more : (place : ℕ) → to ≡ Some place → contains (group_of new place) number ≡ true

pub more_added :
    (old new : Groups) (number to : ℕ)
    → ((one : ℕ)
    → group_of new one ≡ cond (one == to) (group_of old one ++ number ∷ []) (group_of old one))
    → HasMore old new number (Some to)
more_added old new number to is = record {
  kept = λ place n h. elim (cases_eq place to) [
    | inl same ↦
        rw (is place, eq-eqb place to same) (contains-left (group_of old place) (number ∷ []) n h)
    | inr ne ↦ rw (is place, ne_eqb place to ne) h
  ];
  more = λ place e.
      let same : place ≡ to = cc in
      rw (is place, eq-eqb place to same) (contains-push (group_of old place) number);
}

pub more_same : (groups : Groups) (number : ℕ) → HasMore groups groups number None
more_same groups number = record { kept = λ place n h. h; more = λ place e. cc }

pub transferred :
    (old mid new : Groups) (number from : ℕ) (to : Option ℕ)
    → HasMore old mid number to
    → ((one : ℕ) → group_of new one ≡ cond (one == from)
    (filter (λ other. not (other == number)) (group_of mid one)) (group_of mid one))
    → (Some from ≡ to → ⊥)
    → (f : ℕ → Option ℕ)
    → IsBy old f
    → IsBy new (moved f number to)
transferred old mid new number from to added is apart f by n place e = elim (cases_eq n number) [
  | inl same ↦
      let there : to ≡ Some place = sym (ap (λ b. cond b to (f n)) (eq-eqb n number same)) ∙ e in
      let ne : place ≡ from → ⊥ = λ p. apart (ap Some (sym p) ∙ sym there) in
      rw (is place, ne_eqb place from ne, same) (added.more place there)
  | inr ne ↦
      let there : f n ≡ Some place = sym (ap (λ b. cond b to (f n)) (ne_eqb n number ne)) ∙ e in
      let kept = added.kept place n (by n place there) in
      elim (cases_eq place from) [
        | inl same ↦ rw (is place, eq-eqb place from same)
            (contains-without (group_of mid place) number n ne kept)
        | inr other ↦ rw (is place, ne_eqb place from other) kept
      ]
]

pub by_same :
    (groups : Groups) (f : ℕ → Option ℕ) {n m : ℕ} {o u : Option ℕ}
    → n ≡ m
    → o ≡ u
    → IsBy groups (moved f n o)
    → IsBy groups (moved f m u)
by_same groups f same to by = rw (← same, ← to) by
