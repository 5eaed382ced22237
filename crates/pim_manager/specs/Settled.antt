-- What always holds of a manager, and what a step's work records.
use Rattle.std.specs.Prelude.{length}
use Rattle.pim_base.specs.State.{State}
use Rattle.pim_base.specs.Priorities.{effective_priority}
use Rattle.pim_base.specs.Steady.{IsSteady}
use Rattle.pim_chain.specs.Views.{View}
use Rattle.pim_chain.specs.Settled.{Calm}
use Rattle.pim_sets.specs.Work.{Work, Tells}

-- the stored priorities are the effective ones, each queue is in order, and the state is steady
pub record IsSettled (v : View) : Type 0 where
  pub calm : Calm v
  pub steady : IsSteady v.state

-- the work from the one state to the other has a visit for each task whose effective priority differs, and its notes
-- still give each task's original priority
abbrev pub Worked : State → Work → State → Work → Type 0
Worked S a T b = Tells (length S.base) (effective_priority S) a (effective_priority T) b
