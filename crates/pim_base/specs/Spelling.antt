-- How each line of a text is spelled: its words, with one space between.
use Rattle.std.specs.Prelude.{ℕ, max, ◌^◌, ◌<◌, ◌≤◌, List, [], ◌∷◌, ◌++◌, Option, Some, None, codes, decimal}
use Rattle.std.specs.List.{join_with_byte}
use Rattle.std.specs.Option.{option_map_or}
use Rattle.pim_base.specs.declared.steps.Protocol.{Protocol}
use Rattle.pim_base.specs.declared.steps.Op.{Op}
use Rattle.pim_base.specs.declared.steps.Refusal.{Refusal}
use Rattle.pim_base.specs.declared.steps.Reply.{Reply}
use Rattle.pim_base.specs.declared.lines.StepLine.{StepLine}
use Rattle.pim_base.specs.declared.lines.Line.{Line}
use Rattle.pim_base.specs.declared.lines.Line.TheVariants as lines

abbrev pub SPACE : ℕ
SPACE = 32

abbrev pub NEWLINE : ℕ
NEWLINE = 10

-- a number of a text lies between 1 and 65535
abbrev pub IsNumber : ℕ → Type 0
IsNumber n = (0 < n) × (n < 2 ^ 16)

-- a declared priority or ceiling lies between 1 and 99
abbrev pub IsPrio : ℕ → Type 0
IsPrio n = (0 < n) × (n ≤ 99)

-- ---- words

abbrev pub protocol_words : Protocol → List (List ℕ)
protocol_words Protocol.None = codes "none" ∷ []
protocol_words Protocol.Inherit = codes "inherit" ∷ []
protocol_words Protocol.InheritRecursive = codes "inherit" ∷ codes "recursive" ∷ []
protocol_words (Protocol.Protect c) = codes "protect" ∷ decimal c ∷ []

abbrev pub op_words : Op → List (List ℕ)
op_words (Op.Lock m) = codes "lock" ∷ decimal m ∷ []
op_words (Op.Try m) = codes "try" ∷ decimal m ∷ []
op_words (Op.Unlock m) = codes "unlock" ∷ decimal m ∷ []
op_words Op.ReleaseAll = codes "release" ∷ []
op_words (Op.Cancel t) = codes "cancel" ∷ decimal t ∷ []
op_words (Op.SetBase t p) = codes "base" ∷ decimal t ∷ decimal p ∷ []
op_words (Op.SetCeiling m p) = codes "ceil" ∷ decimal m ∷ decimal p ∷ []

abbrev pub refusal_word : Refusal → List ℕ
refusal_word Refusal.NoTask = codes "no-task"
refusal_word Refusal.Waiting = codes "waiting"
refusal_word Refusal.NoMutex = codes "no-mutex"
refusal_word Refusal.Deadlock = codes "deadlock"
refusal_word Refusal.Ceiling = codes "ceiling"
refusal_word Refusal.Busy = codes "busy"
refusal_word Refusal.NotOwner = codes "not-owner"
refusal_word Refusal.NotWaiting = codes "not-waiting"
refusal_word Refusal.Priority = codes "priority"
refusal_word Refusal.Tickets = codes "tickets"
refusal_word Refusal.NotProtect = codes "not-protect"
refusal_word Refusal.Again = codes "again"

abbrev pub reply_words : Reply → List (List ℕ)
reply_words Reply.Granted = codes "granted" ∷ []
reply_words Reply.Queued = codes "queued" ∷ []
reply_words Reply.Freed = codes "freed" ∷ []
reply_words (Reply.Handed t) = codes "handed" ∷ decimal t ∷ []
reply_words (Reply.Released k) = codes "released" ∷ decimal k ∷ []
reply_words Reply.Withdrawn = codes "withdrawn" ∷ []
reply_words Reply.Set = codes "set" ∷ []
reply_words Reply.Kept = codes "kept" ∷ []
reply_words (Reply.Refused r) = codes "refused" ∷ refusal_word r ∷ []

-- an equals sign and the recorded reply, if there is one
abbrev pub recorded_words : Option Reply → List (List ℕ)
recorded_words None = []
recorded_words (Some r) = codes "=" ∷ reply_words r

abbrev pub step_words : StepLine → List (List ℕ)
step_words line = decimal line.step.actor ∷ (op_words line.step.op ++ recorded_words line.recorded)

abbrev pub words_of : Line → List (List ℕ)
words_of (lines.Task n p) = codes "task" ∷ decimal n ∷ decimal p ∷ []
words_of (lines.Mutex n protocol) = codes "mutex" ∷ decimal n ∷ protocol_words protocol
words_of (lines.Step line) = step_words line

-- the first line of a text names the version of the format
abbrev pub version_line : ℕ → List ℕ
version_line version = codes "pim " ++ decimal version

-- the one spelling of a line below it
abbrev pub spelled : Line → List ℕ
spelled line = join_with_byte SPACE (words_of line)

-- ---- numbers in their ranges

abbrev pub IsProtocol : Protocol → Type 0
IsProtocol Protocol.None = Unit {0}
IsProtocol Protocol.Inherit = Unit {0}
IsProtocol Protocol.InheritRecursive = Unit {0}
IsProtocol (Protocol.Protect c) = IsPrio c

abbrev pub IsOp : Op → Type 0
IsOp (Op.Lock m) = IsNumber m
IsOp (Op.Try m) = IsNumber m
IsOp (Op.Unlock m) = IsNumber m
IsOp Op.ReleaseAll = Unit {0}
IsOp (Op.Cancel t) = IsNumber t
IsOp (Op.SetBase t p) = IsNumber t × IsNumber p
IsOp (Op.SetCeiling m p) = IsNumber m × IsNumber p

-- the count of a release may be 0
abbrev pub IsReply : Reply → Type 0
IsReply Reply.Granted = Unit {0}
IsReply Reply.Queued = Unit {0}
IsReply Reply.Freed = Unit {0}
IsReply (Reply.Handed t) = IsNumber t
IsReply (Reply.Released k) = k < 2 ^ 16
IsReply Reply.Withdrawn = Unit {0}
IsReply Reply.Set = Unit {0}
IsReply Reply.Kept = Unit {0}
IsReply (Reply.Refused r) = Unit {0}

abbrev pub IsRecorded : Option Reply → Type 0
IsRecorded None = Unit {0}
IsRecorded (Some r) = IsReply r

-- a line of the format, its numbers in their ranges
abbrev pub IsLine : Line → Type 0
IsLine (lines.Task n p) = IsNumber n × IsPrio p
IsLine (lines.Mutex n protocol) = IsNumber n × IsProtocol protocol
IsLine (lines.Step line) = IsNumber line.step.actor × IsOp line.step.op × IsRecorded line.recorded

-- ---- the first version of the text that has it

abbrev pub protocol_since : Protocol → ℕ
protocol_since Protocol.None = 1
protocol_since Protocol.Inherit = 1
protocol_since Protocol.InheritRecursive = 2
protocol_since (Protocol.Protect c) = 1

abbrev pub op_since : Op → ℕ
op_since (Op.Lock m) = 1
op_since (Op.Try m) = 1
op_since (Op.Unlock m) = 1
op_since Op.ReleaseAll = 1
op_since (Op.Cancel t) = 1
op_since (Op.SetBase t p) = 1
op_since (Op.SetCeiling m p) = 2

abbrev pub refusal_since : Refusal → ℕ
refusal_since Refusal.NoTask = 1
refusal_since Refusal.Waiting = 1
refusal_since Refusal.NoMutex = 1
refusal_since Refusal.Deadlock = 1
refusal_since Refusal.Ceiling = 1
refusal_since Refusal.Busy = 1
refusal_since Refusal.NotOwner = 1
refusal_since Refusal.NotWaiting = 1
refusal_since Refusal.Priority = 1
refusal_since Refusal.Tickets = 1
refusal_since Refusal.NotProtect = 2
refusal_since Refusal.Again = 2

abbrev pub reply_since : Reply → ℕ
reply_since Reply.Granted = 1
reply_since Reply.Queued = 1
reply_since Reply.Freed = 1
reply_since (Reply.Handed t) = 1
reply_since (Reply.Released k) = 1
reply_since Reply.Withdrawn = 1
reply_since Reply.Set = 1
reply_since Reply.Kept = 2
reply_since (Reply.Refused r) = refusal_since r

-- a line came with the latest of its words
abbrev pub since : Line → ℕ
since (lines.Task n p) = 1
since (lines.Mutex n protocol) = protocol_since protocol
since (lines.Step line) = max (op_since line.step.op) (option_map_or reply_since line.recorded 1)

-- texts of this version have the line: it came with that one, or with an earlier one
abbrev pub BelongsTo : ℕ → Line → Type 0
BelongsTo version line = since line ≤ version
