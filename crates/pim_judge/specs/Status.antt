-- The exit status for an answer.
use Rattle.std.specs.Prelude.{ℕ, Result, Ok, Err}
use Rattle.pim_base.specs.declared.lines.Verdict.{Verdict}
use Rattle.pim_base.specs.declared.lines.Verdict.TheVariants.{Accepted, Rejected}
use Rattle.pim_judge.specs.declared.fault.Fault.{Fault}

abbrev pub status_of : Result Verdict Fault → ℕ
status_of (Ok (Accepted n)) = 0
status_of (Ok (Rejected k)) = 1
status_of (Err fault) = 2
