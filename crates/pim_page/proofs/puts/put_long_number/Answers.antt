use Rattle.std.proofs.Common.{arith}
use Rattle.pim_page.proofs.DecimalLemmas.{thousands}
use Rattle.pim_page.proofs.PutsLemmas.{put_twice}
use Rattle.pim_page.proofs.puts.put_long_number.Goals as goal

pub returns-then-thousands-lt-KEPT-clause-text : goal.returns-then-thousands-lt-KEPT-clause-text
returns-then-thousands-lt-KEPT-clause-text c =
    put_twice _ _ _ _ _ _ _ c.put_kept-end.ensures.text c.put.ensures.text c.three_digits.ensures
    (thousands c.args.number (omega arith) (omega arith))
