-- What lookers read: the state after some entries, the number of entries, and the last of them.
use Rattle.std.specs.Prelude.{◌≡◌, ◌+◌, ◌-◌, ◌^◌, min, List, [], ◌∷◌, length, Option, Some, None}
use Rattle.pim_base.specs.State.{State}
use Rattle.pim_base.specs.Steps.{reply_of, after}
use Rattle.pim_base.specs.Runs.{IsRun}
use Rattle.pim_base.specs.declared.steps.Step.{Step}
use Rattle.pim_base.specs.declared.steps.Entry.{Entry}
use Rattle.pim_shared.specs.declared.version.Version.{Version}

-- the step with its reply in this state
abbrev pub entry_of : State → Step → Entry
entry_of S step = record { step = step; reply = reply_of S step }

-- the last of the entries, if there is one
abbrev pub last_of : List Entry → Option Entry
last_of [] = None
last_of (e ∷ []) = Some e
last_of (e ∷ f ∷ es) = last_of (f ∷ es)

-- the version of this state before any entry
abbrev pub first_version : State → Version
first_version S = record { manager = S; steps = 0; last = None }

-- the version after one more step
abbrev pub next_version : Version → Step → Version
next_version v step = record {
  manager = after v.manager step;
  steps = min (v.steps + 1) (2 ^ 64 - 1);
  last = Some (entry_of v.manager step);
}

-- the version is the state after these entries from the start, their number and the last of them
pub record IsVersionOf (start : State) (entries : List Entry) (v : Version) : Type 0 where
  pub run : IsRun start entries v.manager
  pub steps : v.steps ≡ length entries
  pub last : v.last ≡ last_of entries
