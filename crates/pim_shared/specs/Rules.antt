-- The rule between the writer of the versions and the lookers, and how their operations change what they know.
use Rattle.std.specs.Prelude.{◌≡◌, ◌^◌, ◌<◌, ℕ, List, [], ◌++◌, length, Option, Some, None, IsSome, IfSome, option_to_list}
use mathlib.Core.Option.{some}
use mathlib.Core.List.{IsPrefix}
use lib.ListN.{get_elem?}
use Rattle.pim_base.specs.State.{State}
use Rattle.pim_base.specs.declared.steps.Entry.{Entry}
use Rattle.pim_shared.specs.declared.version.Version.{Version}
use Rattle.pim_shared.specs.declared.rule.Known.{Known}
use Rattle.pim_shared.specs.Versions.{IsVersionOf}

-- the start, if it is known, is this start, and the entries seen are a prefix of the published list
pub record IsTrueOf (start : State) (published : List Entry) (k : Known) : Type 0 where
  pub start_is : IfSome k.start (λ S. S ≡ start)
  pub seen : IsPrefix k.seen published

-- The rule: the version is the state after the published list, the list is shorter than 2^64, and what each one knows
-- is true.
pub record Keeps (v : Version) (all : List Known) : Type 0 where
  pub start : State
  pub published : List Entry
  pub version : IsVersionOf start published v
  pub short : length published < 2 ^ 64
  pub known : (seat : ℕ) (k : Known) → get_elem? all seat ≡ some k → IsTrueOf start published k

-- the start, if it is known, and no entry
abbrev pub unseen : Option State → Known
unseen start = record { start = start; seen = [] }

-- a newcomer knows nothing yet
abbrev pub newcomer : Known
newcomer = unseen None

-- who learns the start from another keeps the entries that it has seen
abbrev pub told : Known → Known → Known
told k teller = record { start = teller.start; seen = k.seen }

-- the start is known
abbrev pub KnowsStart : Known → Type 0
KnowsStart k = IsSome k.start

-- begin: the writer knows that the first version is the start
abbrev pub begins : Known → Version → Version → Known → Type 0
begins k v w l = l ≡ unseen (Some v.manager)

-- publish: the list that the writer knows grows by the last entry of the new version
abbrev pub publishes : Known → Version → Version → Known → Type 0
publishes k v w l = l ≡ record { start = k.start; seen = k.seen ++ option_to_list w.last }

-- enter: the list seen before is a prefix of the list seen, and the version is that of the list
abbrev pub enters : Known → Version → Version → Known → Type 0
enters k v w l =
    (l.start ≡ k.start)
    × IsPrefix k.seen l.seen
    × ((start : State) → k.start ≡ Some start → IsVersionOf start l.seen v)
