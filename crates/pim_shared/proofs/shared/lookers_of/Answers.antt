use Rattle.std.proofs.Common.{◌≡◌, ◌+◌, ◌∙◌, ℕ, List, [], ◌∷◌, ◌++◌, ap, sym, subst, arith}
use Rattle.std.proofs.lemmas.List.Elements.{All-push}
use Rattle.pim_base.specs.State.{State}
use Rattle.pim_shared.specs.Logs.{History}
use Rattle.pim_shared.specs.Publishers.{Published}
use Rattle.pim_shared.specs.Lookers.{HaveSeenNothing}
use Rattle.pim_shared.proofs.shared.lookers_of.Goals as goal

-- one more looker
one_more :
    (S T : State) (xs ys : List History) (h : History)
    → ys ≡ xs ++ h ∷ []
    → h ≡ record { start = T; entries = [] }
    → T ≡ S
    → HaveSeenNothing S xs
    → HaveSeenNothing S ys
one_more S T xs ys h pushed nothing same before =
    subst (HaveSeenNothing S) (sym pushed)
    (All-push (λ (k : History). k ≡ record { start = S; entries = [] }) xs h before
    (nothing ∙ ap (λ (U : State). record { start = U; entries = [] }) same))

pub loop-preserved : goal.loop-preserved
loop-preserved c = (
  c.in-Ok.ensures.same ∙ c.loop.invariant.0,
  c.push_reserved.ensures.len ∙ ap (λ (n : ℕ). n + 1) c.loop.invariant.1,
  omega (arith, c.push_reserved.ensures.capacity),
  one_more _ _ _ _ _ c.push_reserved.ensures.items c.in-Ok.ensures.looker (ap (λ (p : Published). p.start) c.loop.invariant.0) c.loop.invariant.3,
)
