use Rattle.std.proofs.Common.{◌≢◌, ◌⊎◌, inl, inr, not, ◌&&◌}
use Rattle.std.proofs.lemmas.Bool.{cases_eq, eq-eqb, ne_eqb}
use Rattle.std.proofs.Common.{◌≡◌, ◌==◌, ◌||◌, ◌<◌, ◌∙◌, ℕ, Bool, true, false, List, [], ◌∷◌, Some, ap, sym, refl, arith}
use Rattle.pim_sets.specs.Numbers.{has, members}
use Rattle.pim_sets.proofs.Members.{filter_least, filter_none}
use Rattle.pim_manager.specs.Released.{released_then}
use Rattle.pim_manager.proofs.released.Released.note.Goals as goal

-- the set of one number
members_only :
    (words : List ℕ) (x : ℕ)
    → x < 320
    → ((k : ℕ) → has words k ≡ (k == x))
    → members words ≡ x ∷ []
unfolding members
members_only words x small only =
    filter_least (has words) (λ _. false) 0 320 x (omega arith) small (at x refl)
    (λ k less. only k ∙ ne_eqb k x (λ e. absurd (omega (arith, less, e))))
    (λ k. none k (cases_eq k x))
    ∙ ap (λ ms. x ∷ ms) (filter_none (λ _. false) 0 320 (λ _ _ _. refl))
  where
    at : (k : ℕ) → k ≡ x → has words k ≡ true
    at k e = only k ∙ eq-eqb k x e

    none : (k : ℕ) → (k ≡ x) ⊎ (k ≢ x) → false ≡ (not (k == x) && has words k)
    none k (inl e) = rw (eq-eqb k x e) refl
    none k (inr ne) = rw (only k, ne_eqb k x ne) refl

or_false : (b : Bool) → (b || false) ≡ b
or_false true = refl
or_false false = refl

pub returns-in-Handed : goal.returns-in-Handed
returns-in-Handed c =
    let m = c.in-Some.mutex in let t = c.in-Handed.field-0 in let x = c.get.result in
    let small = c.requires m t c.in-Some.is c.in-Handed.is in
    let at = c.get.ensures in
    c.put.ensures
    ∙ members_only c.insert.new.self.words x (omega (arith, at, small))
    (λ k. c.insert.ensures k ∙ ap (λ b. (k == x) || b) (c.new-set.ensures k) ∙ or_false (k == x))
    ∙ ap (λ n. n ∷ []) at
    ∙ sym (ap (λ o. released_then c.args.self.now o c.args.reply.now) c.in-Some.is
    ∙ ap (released_then c.args.self.now (Some m)) c.in-Handed.is)
