-- The one outcome of many workers.
use Rattle.std.specs.Prelude.{List, [], ◌∷◌, Result, Ok, Err}
use Rattle.pim_manager.specs.declared.shared_fault.SharedFault.{SharedFault}
use Rattle.pim_manager.specs.declared.shared_fault.SharedFault.TheVariants.{Full, Memory, Closed, Torn, NoPlace}

-- the fault, or Closed for Ok
abbrev pub or_closed : Result Unit SharedFault → Result Unit SharedFault
or_closed (Ok _) = Err Closed
or_closed (Err fault) = Err fault

-- the first fault that isn't Closed, else Closed if any answer is Closed, else Ok
abbrev pub outcome_of : List (Result Unit SharedFault) → Result Unit SharedFault
outcome_of [] = Ok tt
outcome_of (Ok _ ∷ answers) = outcome_of answers
outcome_of (Err Closed ∷ answers) = or_closed (outcome_of answers)
outcome_of (Err Full ∷ _) = Err Full
outcome_of (Err Memory ∷ _) = Err Memory
outcome_of (Err Torn ∷ _) = Err Torn
outcome_of (Err NoPlace ∷ _) = Err NoPlace
