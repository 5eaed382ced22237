-- When the same holds.
use Rattle.std.proofs.Common.{◌≡◌, refl, ap, Option, Some, None}
use Rattle.std.proofs.lemmas.Bool.Decides.{Decides-like}
use Rattle.std.specs.Bool.{Decides}
use Rattle.pim_world.specs.Standing.{Key, same_key}
use Rattle.pim_world.proofs.Same.{Decides-same_key}
use Rattle.pim_spans.specs.Spans.{same}

pub Decides-same : (p q : Option Key) → Decides (same p q) (p ≡ q)
Decides-same None None = (λ h. refl, λ h. refl)
Decides-same None (Some k) = (λ h. cc, λ h. cc)
Decides-same (Some j) None = (λ h. cc, λ h. cc)
Decides-same (Some j) (Some k) =
    Decides-like (same_key j k) (λ e. ap Some e) (λ e. cc) (Decides-same_key j k)
