use Rattle.std.proofs.Common.{◌≡◌, drop, if◌then◌else◌}
use Rattle.pim_shared.specs.Outcomes.{outcome_of, or_closed}
use Rattle.pim_shared.proofs.workers.outcome_of.Given as goal

-- the outcome is that of the rest, with Closed for Ok if an answer before was Closed
abbrev pub invariant-loop-answer : goal.invariant-loop-answer
invariant-loop-answer l =
    outcome_of l.answers
    ≡ (if l.closed then or_closed (outcome_of (drop l.answer-index l.answers)) else outcome_of (drop l.answer-index l.answers))
