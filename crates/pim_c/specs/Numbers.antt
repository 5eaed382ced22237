-- The numbers of replies in C.
use Rattle.std.specs.Prelude.{ℕ}
use Rattle.pim_base.specs.Reports.{refusal_number}
use Rattle.pim_base.specs.declared.steps.Reply.{Reply}
use Rattle.pim_c.specs.declared.numbers.TheConstants.{GRANTED, QUEUED, FREED, HANDED, RELEASED, WITHDRAWN, SET, REFUSED, KEPT}

-- each kind of reply has a number of its own
abbrev pub reply_number : Reply → ℕ
reply_number Reply.Granted = GRANTED
reply_number Reply.Queued = QUEUED
reply_number Reply.Freed = FREED
reply_number (Reply.Handed t) = HANDED
reply_number (Reply.Released k) = RELEASED
reply_number Reply.Withdrawn = WITHDRAWN
reply_number Reply.Set = SET
reply_number (Reply.Refused r) = REFUSED
reply_number Reply.Kept = KEPT

-- the number of the refusal, or 0
abbrev pub reply_refusal : Reply → ℕ
reply_refusal Reply.Granted = 0
reply_refusal Reply.Queued = 0
reply_refusal Reply.Freed = 0
reply_refusal (Reply.Handed t) = 0
reply_refusal (Reply.Released k) = 0
reply_refusal Reply.Withdrawn = 0
reply_refusal Reply.Set = 0
reply_refusal (Reply.Refused r) = refusal_number r
reply_refusal Reply.Kept = 0

-- the task that was handed the mutex, or how many were released, or 0
abbrev pub reply_detail : Reply → ℕ
reply_detail Reply.Granted = 0
reply_detail Reply.Queued = 0
reply_detail Reply.Freed = 0
reply_detail (Reply.Handed t) = t
reply_detail (Reply.Released k) = k
reply_detail Reply.Withdrawn = 0
reply_detail Reply.Set = 0
reply_detail (Reply.Refused r) = 0
reply_detail Reply.Kept = 0
