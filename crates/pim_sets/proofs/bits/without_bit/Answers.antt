use Rattle.std.specs.Int.{w64}
use Rattle.std.proofs.lemmas.Nat.Bits.{bit_at_clear_same, bit_at_clear_other}
use Rattle.pim_sets.proofs.bits.without_bit.Goals as goal

pub returns-clause-same : goal.returns-clause-same
returns-clause-same c = bit_at_clear_same w64 c.args.word c.args.place c.requires

pub returns-clause-others : goal.returns-clause-others
returns-clause-others c i within ne = bit_at_clear_other w64 c.args.word c.args.place c.requires i within ne
