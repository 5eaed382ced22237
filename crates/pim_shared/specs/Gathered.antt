-- When a log is a log of the scripts.
use Rattle.std.specs.Prelude.{◌≡◌, List, Vec, map, Result, MatchResult}
use Rattle.std.specs.Global.{Global}
use Rattle.pim_base.specs.State.{State}
use Rattle.pim_base.specs.Runs.{IsInterleaving}
use Rattle.pim_base.specs.declared.steps.Op.{Op}
use Rattle.pim_shared.specs.Logs.{History}
use Rattle.pim_manager.specs.declared.shared_fault.SharedFault.{SharedFault}
use Rattle.pim_manager.specs.declared.shared_fault.SharedFault.TheVariants.{Torn}

-- the log starts at this state, and its entries are an interleaving of the scripts
pub record IsLogOf (start : State) (scripts : List (List Op)) (log : History) : Type 0 where
  pub begins : log.start ≡ start
  pub interleaved : IsInterleaving log.entries scripts

-- the log if it is a log of the scripts, else Torn
abbrev pub IsGathered : History → State → List (List Op) → Result History SharedFault → Type 0
IsGathered log start scripts result =
    MatchResult result
    (λ gathered. (gathered ≡ log) × IsLogOf start scripts log)
    (λ fault. (fault ≡ Torn) × ¬ IsLogOf start scripts log)

-- the lines of each script
abbrev pub lines : List (Vec Op Global) → List (List Op)
lines scripts = map (λ (script : Vec Op Global). script.items) scripts
