use Rattle.std.proofs.Common.{arith, eqb, w8}
use Rattle.std.specs.Simd.Lanes.{chunk}
use Rattle.std.proofs.lemmas.Simd.{length-chunk, bitmask_splat}
use Rattle.pim_text.proofs.word.marks_at.Goals as goal

pub returns : goal.returns
returns c =
    bitmask_splat w8 eqb (chunk c.args.place 16 c.args.bytes.now) 16 c.args.separator
    (length-chunk c.args.place 16 c.args.bytes.now c.requires) (omega arith)
