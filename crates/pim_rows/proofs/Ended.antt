-- The sections after one line more, and at the end.
use Rattle.std.proofs.Common.{◌≡◌, ℕ, ◌+◌, Bool, not, ◌&&◌, List, ◌∷◌, [], Some, ◌∙◌, ap}
use Rattle.std.proofs.Common.{if◌then◌else◌}
use Rattle.std.proofs.lemmas.List.Sums.{fold-append}
use Rattle.std.specs.List.{fold}
use Rattle.std.specs.Option.{option_map_or}
use Rattle.pim_base.specs.Lists.{numbers}
use Rattle.pim_base.proofs.Greatest.{numbers-more}
use Rattle.pim_fact_lines.specs.declared.line.Line.{Line}
use Rattle.pim_world.specs.After.{after}
use Rattle.pim_rows.specs.Moments.{Moment, now, began, followed_by}
use Rattle.pim_rows.specs.Begun.{is_owned}
use Rattle.pim_rows.specs.Found.{mutex_of, put_section, end_section, sections}

-- a line that names a mutex ends its section if that was owned and isn't
pub sections_after :
    (ms : List Moment) (l : Line) (m : ℕ) (was is : Bool)
    → mutex_of (now ms) l ≡ Some m → is_owned m (now ms) ≡ was → is_owned m (after (now ms) l) ≡ is
    → sections (followed_by ms l)
    ≡ (if was && not is then put_section m (began (is_owned m) ms) (followed_by ms l) (sections ms)
    else sections ms)
sections_after ms l m was is at was_is is_is =
    ap (λ o. option_map_or (end_section (followed_by ms l) ms (sections ms)) o (sections ms)) at
    ∙ ap (λ b. if b && not (is_owned m (after (now ms) l)) then put_section m
    (began (is_owned m) ms) (followed_by ms l) (sections ms) else sections ms) was_is
    ∙ ap (λ b. if was && not b then put_section m
    (began (is_owned m) ms) (followed_by ms l) (sections ms) else sections ms) is_is

-- one place more
pub fold_numbers-more :
    {A : Type 0} (f : A → ℕ → A) (x : A) (n : ℕ)
    → fold f x (numbers (n + 1)) ≡ f (fold f x (numbers n)) (n + 1)
fold_numbers-more f x n =
    ap (fold f x) (numbers-more n) ∙ fold-append f x (numbers n) ((n + 1) ∷ [])
