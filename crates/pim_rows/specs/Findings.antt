-- What is found in a text of facts.
use Rattle.std.specs.Prelude.{◌≡◌, ℕ, List}
use Rattle.pim_fact_lines.specs.declared.line.Line.{Line}
use Rattle.pim_world.specs.Texts.{Says}
use Rattle.pim_rows.specs.declared.findings.Findings.{Findings}
use Rattle.pim_rows.specs.Moments.{Moment}
use Rattle.pim_rows.specs.Rows.{rows_of, moments_of, status_of, text_of}

-- they are the rows and the status of a text with these moments
pub record AreOf (findings : Findings) (ms : List Moment) : Type 0 where
  pub rows : findings.rows.items ≡ text_of (rows_of ms)
  pub status : findings.status ≡ status_of ms

-- the lines are a text, and these are its rows and its status
abbrev pub AreFound : List (List ℕ) → Findings → Type 0
AreFound ls findings = (lines : List Line) × Says ls lines × AreOf findings (moments_of lines)
