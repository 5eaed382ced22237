use Rattle.std.proofs.Common.{arith}
use Rattle.pim_fact_lines.proofs.Names.{name_yes, some_bytes}
use Rattle.pim_fact_lines.proofs.name.is_name.Goals as goal

pub returns : goal.returns
returns c =
    name_yes c.args.bytes.now (some_bytes c.args.bytes.now c.if-is_empty.ensures) (omega arith)
    (λ k h. c.loop-place.invariant k (omega arith))
