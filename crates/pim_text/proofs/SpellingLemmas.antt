-- A spelled line is cut into its words again, and no two lines are spelled alike.
use Rattle.std.proofs.lemmas.Grind.{common_steps}
use Rattle.std.proofs.Common.{◌≡◌, ◌^◌, ℕ, ◌<◌, ◌≤◌, ◌==◌, List, [], ◌∷◌, ◌++◌, codes, arith, rules, refl, get_or}
use Rattle.std.proofs.Common.{ap, sym, ◌∙◌, length, false, Option, Some, None, unwrap_or, find, if◌then◌else◌}
use Rattle.std.specs.Fmt.{decimal}
use Rattle.std.specs.List.{AllByRecursion, join_with_byte}
use Rattle.std.specs.Str.{bytes_eq}
use Rattle.std.specs.Str.Parse.{digits_value}
use Rattle.std.proofs.lemmas.List.Splits.{slice_split_none, slice_split_at, join_with_byte-slice_split}
use Rattle.std.proofs.lemmas.Fmt.{digits_decimal, digits_value-decimal}
use Rattle.std.proofs.lemmas.Str.Parse.{digit_at}
use Rattle.std.proofs.lemmas.Bool.{ne_eqb}
use Rattle.std.proofs.lemmas.Slice.Eq.{bytes_eq-Decides}
use Rattle.std.proofs.lemmas.List.Elements.{All-from_recursion, recursion_from_All, All-from_get_or}
use Rattle.pim_base.specs.declared.steps.Protocol.{Protocol}
use Rattle.pim_base.specs.declared.steps.Op.{Op}
use Rattle.pim_base.specs.declared.steps.Refusal.{Refusal}
use Rattle.pim_base.specs.declared.steps.TheConstants.Refusal.{ALL}
use Rattle.pim_base.specs.declared.steps.Reply.{Reply}
use Rattle.pim_base.specs.declared.lines.StepLine.{StepLine}
use Rattle.pim_base.specs.declared.lines.Line.{Line}
use Rattle.pim_base.specs.declared.lines.Line.TheVariants as lines
use Rattle.pim_base.specs.Spelling.{SPACE, IsNumber, IsProtocol, IsOp, IsReply, IsRecorded, IsLine, words_of}
use Rattle.pim_base.specs.Spelling.{protocol_words, op_words, refusal_word, reply_words, recorded_words, spelled}
use Rattle.pim_text.specs.Reading.{words, Reads, ReadsBytes}
use Rattle.pim_text.proofs.NumberLemmas.{numerals, no_number}

-- ---- the words of a spelled line

-- a word without a space
abbrev pub IsWord : List ℕ → Type 0
IsWord word = AllByRecursion (λ b. (b == SPACE) ≡ false) word

split_joined : (ws : List (List ℕ)) → AllByRecursion IsWord ws → 0 < length ws → words (join_with_byte SPACE ws) ≡ ws
split_joined [] each some = absurd (omega arith)
split_joined (x ∷ []) each some = slice_split_none (λ b. b == SPACE) x (All-from_recursion _ x each.0)
split_joined (x ∷ y ∷ xs) each some =
    slice_split_at (λ b. b == SPACE) x SPACE (join_with_byte SPACE (y ∷ xs)) (All-from_recursion _ x each.0) refl
    ∙ ap (λ ws. x ∷ ws) (split_joined (y ∷ xs) each.1 (omega arith))

pub word_decimal : (n : ℕ) → n < 2 ^ 16 → IsWord (decimal n)
word_decimal n small =
    recursion_from_All (λ b. (b == SPACE) ≡ false) (decimal n)
    (All-from_get_or (λ b. (b == SPACE) ≡ false) (decimal n) 0 (λ i inside.
    let digit : (48 ≤ get_or (decimal n) i 0) × (get_or (decimal n) i 0 ≤ 57) =
    digit_at (decimal n) i (digits_decimal numerals n (omega arith)) inside in
    ne_eqb (get_or (decimal n) i 0) SPACE (λ e. let space : get_or (decimal n) i 0 ≡ 32 = e in omega arith)))

pub all_append :
    {A : Type 0} (P : A → Type 0) (xs ys : List A)
    → AllByRecursion P xs
    → AllByRecursion P ys
    → AllByRecursion P (xs ++ ys)
all_append P xs ys h k = grind (arith, common_steps)

protocol_split : (p : Protocol) → IsProtocol p → AllByRecursion IsWord (protocol_words p)
protocol_split p is = grind (arith, word_decimal)

words_split : (line : Line) → IsLine line → AllByRecursion IsWord (words_of line)
words_split line is = grind (arith, word_decimal, protocol_split)

some_words : (line : Line) → 0 < length (words_of line)
some_words line = search rules

pub split_spelled : (line : Line) → IsLine line → words (spelled line) ≡ words_of line
split_spelled line is = split_joined (words_of line) (words_split line is) (some_words line)

-- what the words of the bytes say, the bytes say
pub bytes_read :
    (bytes : List ℕ) (ws : List (List ℕ)) (r : Option Line)
    → words bytes ≡ ws
    → Reads ws r
    → ReadsBytes bytes r
bytes_read bytes ws None same reads = λ line is e. reads line is (sym same ∙ ap words e ∙ split_spelled line is)
bytes_read bytes ws (Some l) same reads =
    (reads.0, sym (join_with_byte-slice_split SPACE bytes) ∙ ap (join_with_byte SPACE) (same ∙ reads.1))

-- ---- no two lines are spelled alike: their words determine them

pub value-decimal : (n : ℕ) → n < 2 ^ 16 → digits_value 10 (decimal n) ≡ n
value-decimal n small = digits_value-decimal numerals n (omega arith)

-- the number of the first word
number_at : List (List ℕ) → ℕ
number_at [] = 0
number_at (w ∷ ws) = digits_value 10 w

rest_of : List (List ℕ) → List (List ℕ)
rest_of [] = []
rest_of (w ∷ ws) = ws

inherit_in : List (List ℕ) → Protocol
inherit_in [] = Protocol.Inherit
inherit_in (w ∷ ws) = Protocol.InheritRecursive

protocol_in : List (List ℕ) → Protocol
protocol_in [] = Protocol.None
protocol_in (w ∷ ws) =
    if bytes_eq w (codes "inherit") then inherit_in ws
    else if bytes_eq w (codes "protect") then Protocol.Protect (number_at ws)
    else Protocol.None

protocol_in-words : (p : Protocol) → IsProtocol p → protocol_in (protocol_words p) ≡ p
unfolding protocol_in inherit_in number_at
protocol_in-words p is = grind (arith, value-decimal)

op_in : List (List ℕ) → Op
op_in [] = Op.ReleaseAll
op_in (w ∷ ws) =
    if bytes_eq w (codes "lock") then Op.Lock (number_at ws)
    else if bytes_eq w (codes "try") then Op.Try (number_at ws)
    else if bytes_eq w (codes "unlock") then Op.Unlock (number_at ws)
    else if bytes_eq w (codes "cancel") then Op.Cancel (number_at ws)
    else if bytes_eq w (codes "base") then Op.SetBase (number_at ws) (number_at (rest_of ws))
    else if bytes_eq w (codes "ceil") then Op.SetCeiling (number_at ws) (number_at (rest_of ws))
    else Op.ReleaseAll

op_in-words : (op : Op) (ws : List (List ℕ)) → IsOp op → op_in (op_words op ++ ws) ≡ op
unfolding op_in number_at rest_of
op_in-words op ws is = grind (arith, value-decimal)

-- the words after those of an operation
behind : List (List ℕ) → List (List ℕ)
behind [] = []
behind (w ∷ ws) =
    if bytes_eq w (codes "release") then ws
    else if bytes_eq w (codes "base") then rest_of (rest_of ws)
    else if bytes_eq w (codes "ceil") then rest_of (rest_of ws)
    else rest_of ws

behind-words : (op : Op) (ws : List (List ℕ)) → behind (op_words op ++ ws) ≡ ws
unfolding behind rest_of
behind-words op ws = search rules

-- the refusal of this name
refusal_in : List ℕ → Refusal
refusal_in w = unwrap_or (find (λ r. bytes_eq w (refusal_word r)) ALL) Refusal.NoTask

refusal_in-word : (r : Refusal) → refusal_in (refusal_word r) ≡ r
unfolding refusal_in
refusal_in-word r = search rules

word_at : List (List ℕ) → List ℕ
word_at [] = []
word_at (w ∷ ws) = w

reply_in : List (List ℕ) → Reply
reply_in [] = Reply.Granted
reply_in (w ∷ ws) =
    if bytes_eq w (codes "queued") then Reply.Queued
    else if bytes_eq w (codes "freed") then Reply.Freed
    else if bytes_eq w (codes "handed") then Reply.Handed (number_at ws)
    else if bytes_eq w (codes "released") then Reply.Released (number_at ws)
    else if bytes_eq w (codes "withdrawn") then Reply.Withdrawn
    else if bytes_eq w (codes "set") then Reply.Set
    else if bytes_eq w (codes "kept") then Reply.Kept
    else if bytes_eq w (codes "refused") then Reply.Refused (refusal_in (word_at ws))
    else Reply.Granted

reply_in-words : (r : Reply) → IsReply r → reply_in (reply_words r) ≡ r
unfolding reply_in number_at word_at
reply_in-words r is = grind (arith, value-decimal, refusal_in-word)

recorded_in : List (List ℕ) → Option Reply
recorded_in [] = None
recorded_in (equals ∷ ws) = Some (reply_in ws)

recorded_in-words : (r : Option Reply) → IsRecorded r → recorded_in (recorded_words r) ≡ r
unfolding recorded_in
recorded_in-words r is = grind (arith, reply_in-words)

step_in : List ℕ → List (List ℕ) → StepLine
step_in first ws =
    record { step = record { actor = digits_value 10 first; op = op_in ws }; recorded = recorded_in (behind ws) }

step_in-words :
    (line : StepLine)
    → IsLine (lines.Step line)
    → step_in (decimal line.step.actor) (op_words line.step.op ++ recorded_words line.recorded) ≡ line
unfolding step_in
step_in-words line is = grind (arith, value-decimal, op_in-words, behind-words, recorded_in-words)

-- the line of these words
line_in : List (List ℕ) → Line
line_in [] = lines.Task 0 0
line_in (first ∷ ws) =
    if bytes_eq first (codes "task") then lines.Task (number_at ws) (number_at (rest_of ws))
    else if bytes_eq first (codes "mutex") then lines.Mutex (number_at ws) (protocol_in (rest_of ws))
    else lines.Step (step_in first ws)

-- a number is no word that begins with a letter
number_not_word : (n : ℕ) (w : List ℕ) → IsNumber n → 57 < get_or w 0 0 → bytes_eq (decimal n) w ≡ false
number_not_word n w is high = grind (arith, no_number, bytes_eq-Decides)

line_in-words : (line : Line) → IsLine line → line_in (words_of line) ≡ line
unfolding line_in number_at rest_of
line_in-words line is = grind (arith, value-decimal, protocol_in-words, number_not_word, step_in-words)

pub spelled_same : (l m : Line) → IsLine l → IsLine m → spelled l ≡ spelled m → l ≡ m
spelled_same l m is im e =
    let same : words_of l ≡ words_of m = sym (split_spelled l is) ∙ ap words e ∙ split_spelled m im in
    sym (line_in-words l is) ∙ ap line_in same ∙ line_in-words m im
