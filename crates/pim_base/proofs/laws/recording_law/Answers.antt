use Rattle.pim_base.proofs.Recorded.{recording_law as law}
use Rattle.pim_base.proofs.laws.recording_law.Goals as goal

pub returns : goal.returns
returns c = law
