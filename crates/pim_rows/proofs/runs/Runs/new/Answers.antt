use Rattle.pim_rows.proofs.Running.{runs_at_first}
use Rattle.pim_rows.proofs.runs.Runs.new.Goals as goal

pub returns : goal.returns
returns c = runs_at_first _
