use Rattle.std.proofs.Common.{◌≡◌, ◌+◌, ◌<◌, ◌^◌, length, [], ◌∷◌, subst, sym}
use Rattle.std.specs.Mem.{manually_drop_value}
use Rattle.pim_base.specs.declared.steps.Step.{Step}
use Rattle.pim_shared.specs.Publishers.{Published, state_of}
use Rattle.pim_shared.proofs.Publishing.{published_next}
use Rattle.pim_shared.proofs.publisher.Publisher.publish.Goals as goal

pub invariant_of-self : goal.invariant_of-self
invariant_of-self g c =
    let P : Published → Type 0 = λ p. (step : Step) × (p.pending ≡ step ∷ []) in
    let Q : Published → Type 0 = λ p. length p.entries + 1 < 2 ^ 64 in
    let one = subst P (sym c.self.view_is) c.requires.one in
    let short = subst Q (sym c.self.view_is) c.requires.short in
    (published_next (state_of (manually_drop_value c.self.inside.writer)) _ c.self.invariant one short c.replace_with.ensures).0
