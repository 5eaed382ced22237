-- The tests whether two standings are the same.
use Rattle.std.proofs.Common.{◌≡◌, refl, ap, Option, Some, None, Bool, ◌&&◌}
use Rattle.std.proofs.Math.Bool.{beq}
use Rattle.std.proofs.lemmas.Bool.Decides.{Decides-eqb, Decides-and, Decides-like}
use Rattle.std.specs.Bool.{Decides}
use Rattle.std.specs.Cmp.{booleans_Decides}
use Rattle.std.specs.Option.{option_eq}
use Rattle.pim_world.specs.Standing.{Key, Standing, same_key}

pub Decides-same_key : (j k : Key) → Decides (same_key j k) (j ≡ k)
Decides-same_key j k =
    Decides-like (same_key j k)
    (λ (h : ((j.0 ≡ k.0) × (j.1 ≡ k.1)) × (j.2 ≡ k.2)).
    let a : j.0 ≡ k.0 = h.0.0 in let b : j.1 ≡ k.1 = h.0.1 in let c : j.2 ≡ k.2 = h.1 in
    let same : (j.0, j.1, j.2) ≡ (k.0, k.1, k.2) = cc in same)
    (λ e. ((ap (λ (i : Key). i.0) e, ap (λ (i : Key). i.1) e), ap (λ (i : Key). i.2) e))
    (Decides-and _ _
    (Decides-and _ _ (Decides-eqb j.0 k.0) (Decides-eqb j.1 k.1)) (Decides-eqb j.2 k.2))

Decides-option_eq : (p q : Option Key) → Decides (option_eq same_key p q) (p ≡ q)
Decides-option_eq None None = (λ h. refl, λ h. refl)
Decides-option_eq None (Some k) = (λ h. cc, λ h. cc)
Decides-option_eq (Some j) None = (λ h. cc, λ h. cc)
Decides-option_eq (Some j) (Some k) =
    Decides-like (same_key j k) (λ e. ap Some e) (λ e. cc) (Decides-same_key j k)

abbrev pub is_same_standing : Standing → Standing → Bool
is_same_standing a b =
    beq a.lower b.lower
    && (option_eq same_key a.inverted b.inverted
    && (option_eq same_key a.stalled b.stalled && option_eq same_key a.meanwhile b.meanwhile))

pub Decides-is_same_standing : (a b : Standing) → Decides (is_same_standing a b) (a ≡ b)
Decides-is_same_standing a b =
    Decides-like (is_same_standing a b)
    (λ (h : (a.lower ≡ b.lower)
    × ((a.inverted ≡ b.inverted) × ((a.stalled ≡ b.stalled) × (a.meanwhile ≡ b.meanwhile)))).
    let l : a.lower ≡ b.lower = h.0 in let i : a.inverted ≡ b.inverted = h.1.0 in
    let s : a.stalled ≡ b.stalled = h.1.1.0 in let m : a.meanwhile ≡ b.meanwhile = h.1.1.1 in
    same a b l i s m)
    (λ e. (
      ap (λ (s : Standing). s.lower) e,
      (
        ap (λ (s : Standing). s.inverted) e,
        (ap (λ (s : Standing). s.stalled) e, ap (λ (s : Standing). s.meanwhile) e),
      ),
    ))
    (Decides-and _ _ (booleans_Decides a.lower b.lower)
    (Decides-and _ _ (Decides-option_eq a.inverted b.inverted)
    (Decides-and _ _
    (Decides-option_eq a.stalled b.stalled) (Decides-option_eq a.meanwhile b.meanwhile))))
  where
    same :
        (a b : Standing)
        → a.lower ≡ b.lower
        → a.inverted ≡ b.inverted
        → a.stalled ≡ b.stalled
        → a.meanwhile ≡ b.meanwhile
        → a ≡ b
    same a b l i s m =
        let parts : record {
          lower = a.lower;
          inverted = a.inverted;
          stalled = a.stalled;
          meanwhile = a.meanwhile;
        }
        ≡ record {
          lower = b.lower;
          inverted = b.inverted;
          stalled = b.stalled;
          meanwhile = b.meanwhile;
        } =
        cc in parts
