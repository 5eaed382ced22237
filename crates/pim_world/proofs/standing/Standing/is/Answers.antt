use Rattle.std.proofs.lemmas.Bool.Decides.{Decides-at}
use Rattle.pim_world.proofs.Same.{Decides-is_same_standing}
use Rattle.pim_world.proofs.standing.Standing.is.Goals as goal

pub returns : goal.returns
returns c = Decides-at _ _ c.eq.ensures (Decides-is_same_standing c.args.self.now c.args.other.now)
