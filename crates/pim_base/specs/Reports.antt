-- The report of a text: each step's reply, the tasks whose priority it changed and why, and the verdict.
use Rattle.std.specs.Prelude.{ℕ, ◌+◌, ◌-◌, ◌==◌, ◌&&◌, not, Bool, true, List, [], ◌∷◌, ◌++◌, codes, decimal, Option, Some, None, flat_map, if◌then◌else◌}
use Rattle.std.specs.List.{filter, join_with_byte}
use Rattle.pim_base.specs.State.{State, start, task_numbers}
use Rattle.pim_base.specs.Priorities.{effective_priority}
use Rattle.pim_base.specs.Steps.{reply_of, after}
use Rattle.pim_base.specs.Reasons.{reason_of}
use Rattle.pim_base.specs.Spelling.{SPACE, reply_words}
use Rattle.pim_base.specs.Texts.{Trace}
use Rattle.pim_base.specs.declared.steps.Refusal.{Refusal}
use Rattle.pim_base.specs.declared.steps.Reply.{Reply}
use Rattle.pim_base.specs.declared.steps.Reason.{Reason}
use Rattle.pim_base.specs.declared.lines.StepLine.{StepLine}
use Rattle.pim_base.specs.declared.lines.Verdict.{Verdict}

-- ---- texts of a line

abbrev pub reply_text : Reply → List ℕ
reply_text r = join_with_byte SPACE (reply_words r)

abbrev pub reason_words : Reason → List (List ℕ)
reason_words Reason.Base = codes "base" ∷ []
reason_words (Reason.Ceiling m) = codes "ceiling" ∷ decimal m ∷ []
reason_words (Reason.Waiter t m) = codes "waiter" ∷ decimal t ∷ codes "mutex" ∷ decimal m ∷ []

-- "<k> <reply>"
unfoldable pub reply_line : ℕ → Reply → List ℕ
reply_line k r = decimal k ++ codes " " ++ reply_text r ++ codes "\n"

-- "  task <t> at <p> <reason>", in the state after the step
unfoldable pub change_line : State → ℕ → List ℕ
change_line S t =
    codes "  task " ++ decimal t ++ codes " at " ++ decimal (effective_priority S t) ++ codes " "
    ++ join_with_byte SPACE (reason_words (reason_of S t)) ++ codes "\n"

-- "<k> <reply> but recorded <r>"
unfoldable pub differing_line : ℕ → Reply → Reply → List ℕ
differing_line k reply recorded =
    decimal k ++ codes " " ++ reply_text reply ++ codes " but recorded " ++ reply_text recorded ++ codes "\n"

-- "rejected <k>"
unfoldable pub rejected : ℕ → List ℕ
rejected k = codes "rejected " ++ decimal k ++ codes "\n"

-- "accepted <n>"
unfoldable pub accepted : ℕ → List ℕ
accepted n = codes "accepted " ++ decimal n ++ codes "\n"

-- ---- what a step shows

-- the tasks whose effective priority differs, in ascending order
abbrev pub changed_tasks : State → State → List ℕ
changed_tasks S T = filter (λ t. not (effective_priority S t == effective_priority T t)) (task_numbers S)

-- each refusal has a number of its own
abbrev pub refusal_number : Refusal → ℕ
refusal_number Refusal.NoTask = 1
refusal_number Refusal.Waiting = 2
refusal_number Refusal.NoMutex = 3
refusal_number Refusal.Deadlock = 4
refusal_number Refusal.Ceiling = 5
refusal_number Refusal.Busy = 6
refusal_number Refusal.NotOwner = 7
refusal_number Refusal.NotWaiting = 8
refusal_number Refusal.Priority = 9
refusal_number Refusal.Tickets = 10
refusal_number Refusal.NotProtect = 11
refusal_number Refusal.Again = 12

-- each kind of reply has a number of its own
abbrev pub reply_kind : Reply → ℕ
reply_kind Reply.Granted = 1
reply_kind Reply.Queued = 2
reply_kind Reply.Freed = 3
reply_kind (Reply.Handed t) = 4
reply_kind (Reply.Released k) = 5
reply_kind Reply.Withdrawn = 6
reply_kind Reply.Set = 7
reply_kind (Reply.Refused r) = 8
reply_kind Reply.Kept = 9

-- the number in a reply of this kind: the task, the count, or the number of the refusal
abbrev pub reply_detail : Reply → ℕ
reply_detail Reply.Granted = 0
reply_detail Reply.Queued = 0
reply_detail Reply.Freed = 0
reply_detail (Reply.Handed t) = t
reply_detail (Reply.Released k) = k
reply_detail Reply.Withdrawn = 0
reply_detail Reply.Set = 0
reply_detail (Reply.Refused r) = refusal_number r
reply_detail Reply.Kept = 0

-- the replies are equal
abbrev pub same_reply : Reply → Reply → Bool
same_reply r q = (reply_kind r == reply_kind q) && (reply_detail r == reply_detail q)

-- no reply was recorded, or this reply was
abbrev pub agrees : Option Reply → Reply → Bool
agrees None reply = true
agrees (Some recorded) reply = same_reply recorded reply

-- the reply, and the tasks that the step changed
abbrev pub answer_lines : ℕ → State → StepLine → List ℕ
answer_lines k S line =
    let T : State = after S line.step in
    reply_line k (reply_of S line.step) ++ flat_map (change_line T) (changed_tasks S T)

-- the reply and the recorded one, and the rejection
abbrev pub rejection_lines : ℕ → Reply → Option Reply → List ℕ
rejection_lines k reply None = []
rejection_lines k reply (Some recorded) = differing_line k reply recorded ++ rejected k

-- what is shown of a step
abbrev pub step_lines : ℕ → State → StepLine → List ℕ
step_lines k S line =
    if agrees line.recorded (reply_of S line.step) then answer_lines k S line
    else rejection_lines k (reply_of S line.step) line.recorded

-- the report of the step lines from number k on, from this state: it ends at the first reply that differs
abbrev pub report_from : ℕ → State → List StepLine → List ℕ
report_from k S [] = accepted (k - 1)
report_from k S (line ∷ ls) =
    step_lines k S line
    ++ (if agrees line.recorded (reply_of S line.step) then report_from (k + 1) (after S line.step) ls else [])

-- the verdict of that report
abbrev pub verdict_from : ℕ → State → List StepLine → Verdict
verdict_from k S [] = Verdict.Accepted (k - 1)
verdict_from k S (line ∷ ls) =
    if agrees line.recorded (reply_of S line.step)
    then verdict_from (k + 1) (after S line.step) ls
    else Verdict.Rejected k

-- the report of a text, from the state in which all mutexes are free
abbrev pub report_of : Trace → List ℕ
report_of t = report_from 1 (start t.bases t.protocols 1) t.steps

abbrev pub verdict_of : Trace → Verdict
verdict_of t = verdict_from 1 (start t.bases t.protocols 1) t.steps
