-- The writer of the versions, and what it has published.
use Rattle.std.specs.Prelude.{◌≡◌, ◌+◌, ◌^◌, ◌<◌, List, [], ◌∷◌, ◌++◌, fold, length, drop, option_to_list}
use Rattle.left_right.specs.Sides.{view}
use Rattle.left_right.specs.declared.Absorb.{Ghosts}
use Rattle.left_right.specs.declared.writer.Writer.{Writer}
use Rattle.pim_base.specs.State.{State}
use Rattle.pim_base.specs.Steps.{after}
use Rattle.pim_base.specs.declared.steps.Step.{Step}
use Rattle.pim_base.specs.declared.steps.Entry.{Entry}
use Rattle.pim_shared.specs.declared.version.Version.{Version}
use Rattle.pim_shared.specs.declared.rule.Known.{Known}
use Rattle.pim_shared.specs.Lookers.{start_of}
use Rattle.pim_shared.specs.Rules.{KnowsStart}
use Rattle.pim_shared.specs.Versions.{IsVersionOf, entry_of, first_version, next_version}

-- the version that lookers read, the steps that are pending, and what the writer knows
pub record WriterState : Type 0 where
  pub version : Version
  pub pending : List Step
  pub known : Known

module _ {P A S : Type 0} {g : Ghosts Version Step S} where
  -- the version, the pending steps and the knowledge of a writer
  abbrev pub state_of : Writer Version Step Known P A S g → WriterState
  state_of w = record { version = w.desk.shown.value; pending = drop w.behind w.log.items; known = view w.desk.place }

-- no step was published, and none is pending
pub record IsNew (w : WriterState) : Type 0 where
  pub first : w.version ≡ first_version w.version.manager
  pub none : w.pending ≡ []

-- the writer knows the start, and its version is that of the published list
pub record IsUpToDate (w : WriterState) : Type 0 where
  pub start : KnowsStart w.known
  pub version : IsVersionOf (start_of w.known) w.known.seen w.version

-- one step is pending, and the writer knows all entries of the version
pub record MayPublish (w : WriterState) : Type 0 where
  pub step : Step
  pub one : w.pending ≡ step ∷ []
  pub whole : w.version.steps ≡ length w.known.seen
  pub short : length w.known.seen + 1 < 2 ^ 64

-- the pending steps are published, and the writer knows the last entry
pub record HasPublished (w x : WriterState) : Type 0 where
  pub version : x.version ≡ fold next_version w.version w.pending
  pub none : x.pending ≡ []
  pub known : x.known ≡ record { start = w.known.start; seen = w.known.seen ++ option_to_list x.version.last }

-- the start, the published list, the state after it, and the steps that are pending
pub record Published : Type 0 where
  pub start : State
  pub entries : List Entry
  pub state : State
  pub pending : List Step

-- what the writer has published
abbrev pub published_by : WriterState → Published
published_by w = record { start = start_of w.known; entries = w.known.seen; state = w.version.manager; pending = w.pending }

-- nothing was published yet
abbrev pub unpublished : State → Published
unpublished S = record { start = S; entries = []; state = S; pending = [] }

-- one more step is pending
abbrev pub with_pending : Published → Step → Published
with_pending p step = record p { pending = p.pending ++ step ∷ [] }

-- the steps, each with its reply after the steps before it
abbrev pub replied : State → List Step → List Entry
replied S [] = []
replied S (step ∷ steps) = entry_of S step ∷ replied (after S step) steps

-- the pending steps are published
abbrev pub all_published : Published → Published
all_published p = record {
  start = p.start;
  entries = p.entries ++ replied p.state p.pending;
  state = fold after p.state p.pending;
  pending = [];
}
