use Rattle.std.proofs.Common.{[], ◌∷◌, sym, subst}
use Rattle.pim_shared.specs.declared.version.Version.{Version}
use Rattle.pim_shared.specs.Rules.{Keeps, newcomer}
use Rattle.pim_shared.proofs.Beginning.{first_keeps}
use Rattle.pim_shared.proofs.publisher.Publisher.new.Goals as goal

pub new-requires-clause-rule : goal.new-requires-clause-rule
new-requires-clause-rule g c = let P : Version → Type 0 = λ v. Keeps v (newcomer ∷ []) in subst P (sym c.first-first.ensures) (first_keeps c.args.first)
