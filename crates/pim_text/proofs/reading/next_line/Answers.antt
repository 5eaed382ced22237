use Rattle.std.proofs.Common.{refl}
use Rattle.pim_text.proofs.ReadingLemmas.{lines_are, rest_shorter}
use Rattle.pim_text.proofs.reading.next_line.Goals as goal

pub returns-clause-lines : goal.returns-clause-lines
returns-clause-lines c = rw c.unwrap_or.ensures (lines_are _ _ c.cut.result.1 _ refl c.requires c.cut.ensures.parts)

pub returns-clause-shorter : goal.returns-clause-shorter
returns-clause-shorter c =
    rw c.unwrap_or.ensures (rest_shorter _ c.cut.result.1 _ refl c.requires c.cut.ensures.shorter)
