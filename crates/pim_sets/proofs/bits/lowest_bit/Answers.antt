use Rattle.std.proofs.Common.{w64}
use Rattle.std.proofs.lemmas.Nat.Bits.{bit_at-trailing_zeros}
use Rattle.pim_sets.proofs.bits.lowest_bit.Goals as goal

pub returns-clause-is_set : goal.returns-clause-is_set
returns-clause-is_set c = (bit_at-trailing_zeros w64 c.args.word c.requires c.ranges.word.fits).1

pub returns-clause-none_below : goal.returns-clause-none_below
returns-clause-none_below c = (bit_at-trailing_zeros w64 c.args.word c.requires c.ranges.word.fits).2
