use Rattle.std.proofs.Common.{◌≡◌, ◌-◌, ◌^◌, vec_len}
use Rattle.pim_page.specs.Ends.{TakesOff}
use Rattle.pim_findings.proofs.transfer.read_all.Given as goal

-- what was taken off so far is in the bytes, and nothing failed
abbrev pub invariant-loop-count : goal.invariant-loop-count
invariant-loop-count g l = record {
  taken : TakesOff (g.R.Source.remaining l.fn.reader) (g.R.Source.remaining l.reader) l.bytes.items;
  failures : g.R.Source.failures l.reader ≡ g.R.Source.failures l.fn.reader;
}

-- the room for bytes that is left
abbrev pub decreases-loop-count : goal.decreases-loop-count
decreases-loop-count g l = 2 ^ 64 - vec_len l.bytes
