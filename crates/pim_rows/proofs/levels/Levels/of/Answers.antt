use Rattle.std.proofs.Common.{ℕ, Option, None, unwrap_or, ◌∙◌, ap}
use Rattle.pim_rows.specs.Kept.{kept_of}
use Rattle.pim_rows.proofs.levels.Levels.of.Goals as goal

pub returns-in-Some : goal.returns-in-Some
returns-in-Some c =
    ap (λ (o : Option (Option (ℕ × ℕ))). unwrap_or o None) c.in-Some.ensures
    ∙ ap (λ (t : ℕ). unwrap_or (kept_of c.args.self.now.apart t) None) c.thread.view_is

pub returns-in-None : goal.returns-in-None
returns-in-None c =
    ap (λ (o : Option (Option (ℕ × ℕ))). unwrap_or o None) c.in-None.ensures
    ∙ ap (λ (t : ℕ). unwrap_or (kept_of c.args.self.now.apart t) None) c.thread.view_is
