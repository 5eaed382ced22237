-- Who owns a mutex during a section.
use Rattle.std.proofs.Common.{◌≡◌, ℕ, zero, suc, ◌+◌, ◌-◌, Bool, true, false, cond, List, [], ◌∷◌}
use Rattle.std.proofs.Common.{Option, Some, None, is_some, nat_lt, unwrap_or, inl, inr, refl, sym}
use Rattle.std.proofs.Common.{◌∙◌, ap, subst}
use Rattle.std.specs.List.{fold}
use Rattle.std.proofs.lemmas.Bool.{cases_eq, eq-eqb, true≢false}
use Rattle.std.proofs.lemmas.Option.{none-some}
use Rattle.pim_base.specs.State.{State, owner_of, count_of, with_owner, with_count, with_wait}
use Rattle.pim_base.specs.State.{with_ceiling}
use Rattle.pim_base.proofs.Places.{nth-put_other}
use Rattle.pim_fact_lines.specs.declared.line.Line.{Line}
use Rattle.pim_fact_lines.specs.declared.line.Line.TheVariants as lines
use Rattle.pim_fact_lines.specs.declared.line.What.{What}
use Rattle.pim_fact_lines.specs.declared.line.What.TheVariants as whats
use Rattle.pim_waits.specs.Model.{wait_for, protocol_in_model}
use Rattle.pim_waits.proofs.Whole.{owner-put, owner-mutex}
use Rattle.pim_world.specs.Worlds.{World, no_world}
use Rattle.pim_world.specs.After.{after, after_what, at, at_time, locked, unlocked, with_state}
use Rattle.pim_rows.specs.Moments.{Moment, now, number, first_moments, followed_by, began}
use Rattle.pim_rows.specs.Begun.{is_owned, grant}
use Rattle.pim_rows.specs.SectionOwners.{If, Since, IsSectionOf, SectionOwnerLaw}

-- ---- a mutex that is owned before and after has the same owner

other_owner :
    (S : State) (k m : ℕ) (o : Option ℕ)
    → (k ≡ m → ⊥)
    → owner_of (with_owner S k o) m ≡ owner_of S m
other_owner S k m o ne = ap (λ v. unwrap_or v None) (nth-put_other S.owner k m o ne)

locked_owner :
    (S : State) (t k m : ℕ)
    → is_some (owner_of S m) ≡ true
    → owner_of (locked S t k) m ≡ owner_of S m
locked_owner S t k m owned = go (is_some (owner_of S k)) refl
  where
    go :
        (b : Bool)
        → is_some (owner_of S k) ≡ b
        → owner_of (cond b (with_count S k (count_of S k + 1)) (with_owner S k (Some t))) m
        ≡ owner_of S m
    go true is = refl
    go false is = elim (cases_eq k m) [
      | inl same ↦
          absurd (true≢false (sym owned ∙ ap (λ j. is_some (owner_of S j)) (sym same) ∙ is))
      | inr ne ↦ other_owner S k m (Some t) ne
    ]

freed : (S : State) (m : ℕ) → is_some (owner_of (with_owner S m None) m) ≡ true → ⊥
freed S m owned = go (owner_of (with_owner S m None) m) refl owned
  where
    go : (o : Option ℕ) → owner_of (with_owner S m None) m ≡ o → is_some o ≡ true → ⊥
    go None is owned = let no : false ≡ true = owned in cc
    go (Some t) is owned =
        none-some t (sym (ap (λ b. cond b None (owner_of S m)) (eq-eqb m m refl))
        ∙ owner-put S m m None t is)

unlocked_owner :
    (S : State) (k m : ℕ)
    → is_some (owner_of (unlocked S k) m) ≡ true
    → owner_of (unlocked S k) m ≡ owner_of S m
unlocked_owner S k m owned = go (nat_lt 1 (count_of S k)) owned
  where
    go :
        (b : Bool)
        → is_some (owner_of (cond b (with_count S k (count_of S k - 1)) (with_owner S k None)) m)
        ≡ true
        → owner_of (cond b (with_count S k (count_of S k - 1)) (with_owner S k None)) m
        ≡ owner_of S m
    go true owned = refl
    go false owned = elim (cases_eq k m) [
      | inl same ↦ absurd
          (freed S m (subst (λ j. is_some (owner_of (with_owner S j None) m) ≡ true) same owned))
      | inr ne ↦ other_owner S k m None ne
    ]

-- the owner of m is the same in both, if m is owned in both
abbrev Stays : ℕ → World → World → Type 0
Stays m w next =
    is_owned m w ≡ true → is_owned m next ≡ true → owner_of next.state m ≡ owner_of w.state m

stays_at :
    (place : Option ℕ) (w : World) (S : ℕ → State) (m : ℕ)
    → ((k : ℕ) → Stays m w (with_state w (S k)))
    → Stays m w (at place (λ k w'. with_state w' (S k)) w)
stays_at None w S m each was is = refl
stays_at (Some k) w S m each was is = each k was is

stays_what : (what : What) (t m : ℕ) (w : World) → Stays m w (after_what what t w)
stays_what (whats.Granted x) t m w was is =
    stays_at (w.mutex x) w (λ k. locked (with_wait w.state t None) t k) m
    (λ k was is. locked_owner (with_wait w.state t None) t k m was)
    was is
stays_what (whats.Took x) t m w was is =
    stays_at (w.mutex x) w
    (λ k. locked w.state t k) m (λ k was is. locked_owner w.state t k m was) was is
stays_what (whats.Waits x) t m w was is =
    stays_at
    (w.mutex x) w (λ k. with_wait w.state t (Some (wait_for k))) m (λ k was is. refl) was is
stays_what (whats.GaveUp x) t m w was is = refl
stays_what (whats.Released x) t m w was is =
    stays_at
    (w.mutex x) w (λ k. unlocked w.state k) m (λ k was is. unlocked_owner w.state k m is) was is
stays_what (whats.Priority level) t m w was is = refl
stays_what (whats.Ceiling x level) t m w was is =
    stays_at (w.mutex x) w (λ k. with_ceiling w.state k level) m (λ k was is. refl) was is
stays_what (whats.Blocks x) t m w was is = refl
stays_what (whats.Resumes x ended) t m w was is = refl
stays_what (whats.Runs level) t m w was is = refl
stays_what (whats.On cpu) t m w was is = refl
stays_what whats.OffReady t m w was is = refl
stays_what whats.OffAsleep t m w was is = refl

stays_after : (l : Line) (m : ℕ) (w : World) → Stays m w (after w l)
stays_after (lines.Thread t level) m w was is = refl
stays_after (lines.Mutex x is_recursive protocol) m w was is =
    owner-mutex w.state (protocol_in_model protocol) m
stays_after (lines.Object x) m w was is = refl
stays_after lines.Unseen m w was is = refl
stays_after (lines.Fact time t what) m w was is = go (w.thread t) was is
  where
    go : (place : Option ℕ) → Stays m w (at place (after_what what) (at_time time w))
    go None was is = refl
    go (Some p) was is = stays_what what p m (at_time time w) was is
stays_after (lines.Lost time) m w was is = refl
stays_after (lines.End time) m w was is = refl

-- ---- since a section began

module _ (m : ℕ) where
  -- what is known of the mutex after these lines
  abbrev Known : List Moment → Type 0
  Known ms = (t : ℕ) → owner_of (now ms).state m ≡ Some t → IsSectionOf m t ms

  section_more : (l : Line) (ms : List Moment) → Known ms → Known (followed_by ms l)
  section_more l ms known t e = go (is_owned m (now ms)) refl
    where
      next : Moment
      next = record { number = number ms + 1; line = l; world = after (now ms) l }

      go :
          (b : Bool)
          → is_owned m (now ms) ≡ b
          → IsSectionOf m t (followed_by ms l)
      go true was =
          let same : owner_of (after (now ms) l).state m ≡ owner_of (now ms).state m =
          stays_after l m (now ms) was (ap is_some e) in
          let before : IsSectionOf m t ms = known t (sym same ∙ e) in
          record {
            since = (
              e,
              subst (λ b. If b (Since (is_owned m) (λ w. owner_of w.state m ≡ Some t) ms))
                  (sym was) before.since,
            );
            owner =
                subst (λ b. (grant m (cond b (began (is_owned m) ms) (next ∷ ms))).owner ≡ t)
                (sym was) before.owner;
          }
      go false was = record {
        since = (
          e,
          subst (λ b. If b (Since (is_owned m) (λ w. owner_of w.state m ≡ Some t) ms))
              (sym was) tt,
        );
        owner =
            subst (λ b. (grant m (cond b (began (is_owned m) ms) (next ∷ ms))).owner ≡ t) (sym was)
            (ap (λ o. unwrap_or o 0) e);
      }

  section_all : (ls : List Line) (ms : List Moment) → Known ms → Known (fold followed_by ms ls)
  section_all [] ms known = known
  section_all (l ∷ ls) ms known = section_all ls (followed_by ms l) (section_more l ms known)

  no_owner : (t : ℕ) → owner_of no_world.state m ≡ Some t → ⊥
  no_owner t e = go m e
    where
      go : (m : ℕ) → owner_of no_world.state m ≡ Some t → ⊥
      go zero e = none-some t e
      go (suc i) e = none-some t e

pub section_owner_law : SectionOwnerLaw
section_owner_law ls m t e = section_all m ls first_moments (λ t e. absurd (no_owner m t e)) t e
