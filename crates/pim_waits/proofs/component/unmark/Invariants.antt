use Rattle.std.proofs.Common.{◌≡◌, ◌<◌, ℕ, true, false, length, get_or}
use Rattle.pim_waits.specs.Members.{is_marked}
use Rattle.pim_waits.proofs.component.unmark.Given as goal

-- no thread is marked that wasn't, and the threads so far are not
abbrev pub invariant-loop-thread : goal.invariant-loop-thread
invariant-loop-thread l = record {
  len : length l.marks.items ≡ length l.fn.marks.items;
  left : (t : ℕ) → is_marked l.marks.items t ≡ true → is_marked l.fn.marks.items t ≡ true;
  gone : (k : ℕ) → k < l.thread-index → is_marked l.marks.items (get_or l.threads k 0) ≡ false;
}
