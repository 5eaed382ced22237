-- What holds of inverted waits after each line: docs/ROWS.md, laws 2 to 5.
use Rattle.std.specs.Prelude.{◌≡◌, ◌≢◌, ◌<◌, ◌↔◌, ℕ, List, Some, None, IsTrue}
use Rattle.pim_base.specs.State.{base_of}
use Rattle.pim_fact_lines.specs.declared.line.Line.{Line}
use Rattle.pim_waits.specs.Awaited.{awaited_of}
use Rattle.pim_waits.specs.Waiting.{gets, runner, blame}
use Rattle.pim_waits.specs.Laws.{IsRunner, IsToBlame, WayPassesOn, IsIdleOwner}
use Rattle.pim_world.specs.Worlds.{World, blocked_at}
use Rattle.pim_world.specs.Texts.{Says}
use Rattle.pim_rows.specs.Moments.{now}
use Rattle.pim_world.specs.Standing.{inverted_by, meanwhile_of}
use Rattle.pim_rows.specs.Rows.{moments_of}
use Rattle.pim_rows.specs.Laws.{is_inverted}

-- Laws 2, 3, 4 and 5 of a thread t. `inverted_by w t` is its runner if t is inverted.
pub record HasInversionLaws (w : World) (t : ℕ) : Type 0 where
  pub passing : WayPassesOn w.state t → inverted_by w t ≡ None
  pub blamed :
      (r : ℕ)
      → inverted_by w t ≡ Some r
      → (m : ℕ) × (blame w.state t ≡ Some m) × IsToBlame w.state t m
  pub idle :
      (m u : ℕ)
      → IsIdleOwner w.state m u
      → blocked_at w u ≡ None
      → awaited_of w.state t ≡ Some m
      → IsTrue (is_inverted t w) ↔ (base_of w.state u < gets w.state t)
  pub runs : (r : ℕ) → runner w.state t ≡ Some r → IsRunner w.state t r
  pub meanwhile :
      (r u : ℕ)
      → inverted_by w t ≡ Some r
      → meanwhile_of w t r ≡ Some u
      → (u ≢ t) × (u ≢ r)

-- They hold of all threads after each text, and so after each line of one.
abbrev pub InversionLaw : Type 0
InversionLaw =
    (bytes : List (List ℕ)) (lines : List Line)
    → Says bytes lines
    → (t : ℕ)
    → HasInversionLaws (now (moments_of lines)) t
