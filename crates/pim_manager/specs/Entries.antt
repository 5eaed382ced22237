-- Steps and their replies.
use Rattle.std.specs.Prelude.{List, [], ◌∷◌}
use Rattle.pim_base.specs.State.{State}
use Rattle.pim_base.specs.Steps.{reply_of, after}
use Rattle.pim_base.specs.declared.steps.Step.{Step}
use Rattle.pim_base.specs.declared.steps.Reply.{Reply}
use Rattle.pim_base.specs.declared.steps.Entry.{Entry}

-- each step with its reply
abbrev pub entries : List Step → List Reply → List Entry
entries (step ∷ steps) (reply ∷ replies) = record { step = step; reply = reply } ∷ entries steps replies
entries _ _ = []

-- the model's replies to the steps, one after another
abbrev pub replies_of : State → List Step → List Reply
replies_of S [] = []
replies_of S (step ∷ steps) = reply_of S step ∷ replies_of (after S step) steps
