use Rattle.std.proofs.Common.{arith}
use Rattle.std.proofs.lemmas.Grind.{common_steps}
use Rattle.pim_page.proofs.PutsLemmas.{put_line}
use Rattle.pim_page.proofs.TraceLineLemmas.{entry_spelled}
use Rattle.pim_page.proofs.page.Page.entry.Goals as goal

pub returns : goal.returns
returns c = put_line _ _ _ _ (entry_spelled c.args.entry.now) (grind (arith, common_steps))
