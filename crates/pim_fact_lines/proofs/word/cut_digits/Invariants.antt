use Rattle.std.proofs.Common.{◌≡◌, ℕ, ◌<◌, ◌^◌, take, get_or}
use Rattle.std.specs.Int.{IsInRange}
use Rattle.std.specs.Str.Parse.{digits_value}
use Rattle.pim_fact_lines.proofs.word.cut_digits.Given as goal

-- the bytes so far are digits, and this is their value
abbrev pub invariant-loop-place : goal.invariant-loop-place
invariant-loop-place l = record {
  small : l.value < 10 ^ 19;
  value : l.value ≡ digits_value 10 (take l.place l.bytes);
  digits : (k : ℕ) → k < l.place → IsInRange 48 57 (get_or l.bytes k 0);
}
