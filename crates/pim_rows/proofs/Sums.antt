-- The times of a tally are sums of stretches.
use Rattle.std.proofs.Common.{◌≡◌, ◌∙◌, ℕ, ◌+◌, Bool, true, false, refl, sym, ap, Option, Some}
use Rattle.std.proofs.Common.{None, List, [], ◌∷◌, is_some, if◌then◌else◌}
use Rattle.std.specs.Option.{option_and_then, option_map}
use Rattle.std.proofs.lemmas.Bool.{cond-true, cond-false}
use Rattle.pim_waits.specs.Waiting.{runner}
use Rattle.pim_world.specs.Worlds.{World, blocked_at}
use Rattle.pim_rows.specs.Moments.{Moment, now, time, stretch}
use Rattle.pim_world.specs.Standing.{standing, waits, is_lower, inverted_by, meanwhile_of}
use Rattle.pim_rows.specs.Tables.{total}
use Rattle.pim_rows.specs.Tallies.{Tally, tally, with_time, no_tally}
use Rattle.pim_rows.specs.Laws.{is_inverted, is_stalled, has_meanwhile, SumsLaw}
use Rattle.pim_rows.proofs.Changes.{total-add_if}
use Rattle.pim_world.proofs.Fronts.{is_some-option_map}

is_some-and_then_map : {A B C : Type 0} (f : A → Option B) (g : A → B → C) (o : Option A) →
    is_some (option_and_then (λ a. option_map (g a) (f a)) o) ≡ is_some (option_and_then f o)
is_some-and_then_map f g None = refl
is_some-and_then_map f g (Some a) = is_some-option_map (g a) (f a)

-- A measure of a tally that starts at 0, and grows by each time in which this held, is the sum of
-- these.
sum_of_tally : (measure : Tally → ℕ) (holds : World → Bool) (t : ℕ) →
    measure no_tally ≡ 0 →
    ((w : World) (n : ℕ) (times : Tally) →
    measure (with_time (standing w t) n times) ≡ measure times + (if holds w then n else 0)) →
    (ms : List Moment) → measure (tally t ms) ≡ time (waits t) holds ms
sum_of_tally measure holds t none more [] = none
sum_of_tally measure holds t none more (m ∷ ms) =
    go (waits t (now ms)) refl (sum_of_tally measure holds t none more ms)
  where
    go : (b : Bool) → waits t (now ms) ≡ b → measure (tally t ms) ≡ time (waits t) holds ms →
        measure (tally t (m ∷ ms)) ≡ time (waits t) holds (m ∷ ms)
    go true h before =
        ap measure (cond-true _ _ _ h)
        ∙ more (now ms) (stretch m ms) (tally t ms)
        ∙ ap (λ n. n + (if holds (now ms) then stretch m ms else 0)) before
        ∙ sym (cond-true _ _ _ h)
    go false h before = ap measure (cond-false _ _ _ h) ∙ none ∙ sym (cond-false _ _ _ h)

if-same : (b c : Bool) (n : ℕ) → b ≡ c → (if b then n else 0) ≡ (if c then n else 0)
if-same b c n e = ap (λ b. if b then n else 0) e

pub sums_law : SumsLaw
sums_law t ms = record {
  lower = sum_of_tally (λ times. times.lower) (λ w. is_lower w t) t refl (λ w n times. refl) ms;
  inverted =
      sum_of_tally (λ times. total times.inverted) (is_inverted t) t refl
      (λ w n times. total-add_if _ n times.inverted
      ∙ ap (λ k. total times.inverted + k) (if-same _ _ n (is_some-option_map _ (inverted_by w t))))
      ms;
  stalled =
      sum_of_tally (λ times. total times.stalled) (is_stalled t) t refl
      (λ w n times. total-add_if _ n times.stalled
      ∙ ap (λ k. total times.stalled + k)
      (if-same _ _ n (is_some-and_then_map (blocked_at w) _ (runner w.state t)))) ms;
  meanwhile =
      sum_of_tally (λ times. total times.meanwhile) (has_meanwhile t) t refl
      (λ w n times. total-add_if _ n times.meanwhile
      ∙ ap (λ k. total times.meanwhile + k)
      (if-same _ _ n (is_some-option_map _ (option_and_then (meanwhile_of w t) (inverted_by w t)))))
      ms;
}
