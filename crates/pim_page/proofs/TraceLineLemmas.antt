-- The lines of a trace, by their parts.
use Rattle.std.proofs.Common.{◌≡◌, ℕ, List, [], ◌∷◌, ◌++◌, codes, decimal, refl, ap, ap₂, ◌∙◌, sym, append_assoc}
use Rattle.std.specs.List.{join_with_byte}
use Rattle.pim_base.specs.Spelling.{SPACE, spelled, protocol_words, op_words, reply_words}
use Rattle.pim_base.specs.Reports.{reply_text}
use Rattle.pim_base.specs.Recordings.{ended, entry_line}
use Rattle.pim_base.specs.declared.steps.Protocol.{Protocol}
use Rattle.pim_base.specs.declared.steps.Op.{Op}
use Rattle.pim_base.specs.declared.steps.Reply.{Reply}
use Rattle.pim_base.specs.declared.steps.Entry.{Entry}
use Rattle.pim_base.specs.declared.lines.Line.TheVariants as lines
use Rattle.pim_page.specs.Printed.{protocol_text, op_text}

-- a word before a reply
before_reply : (w : List ℕ) (r : Reply) → join_with_byte SPACE (w ∷ reply_words r) ≡ w ++ (codes " " ++ reply_text r)
before_reply w Reply.Granted = refl
before_reply w Reply.Queued = refl
before_reply w Reply.Freed = refl
before_reply w (Reply.Handed t) = refl
before_reply w (Reply.Released k) = refl
before_reply w Reply.Withdrawn = refl
before_reply w Reply.Set = refl
before_reply w Reply.Kept = refl
before_reply w (Reply.Refused r) = refl

-- a word before an operation
before_op : (w : List ℕ) (op : Op) → join_with_byte SPACE (w ∷ op_words op) ≡ w ++ (codes " " ++ op_text op)
before_op w (Op.Lock m) = refl
before_op w (Op.Try m) = refl
before_op w (Op.Unlock m) = refl
before_op w Op.ReleaseAll = refl
before_op w (Op.Cancel t) = refl
before_op w (Op.SetBase t p) = refl
before_op w (Op.SetCeiling m p) = refl

-- a word before a protocol
before_protocol :
    (w : List ℕ) (p : Protocol)
    → join_with_byte SPACE (w ∷ protocol_words p) ≡ w ++ (codes " " ++ protocol_text p)
before_protocol w Protocol.None = refl
before_protocol w Protocol.Inherit = refl
before_protocol w Protocol.InheritRecursive = refl
before_protocol w (Protocol.Protect c) = refl

-- the parts of the line of a mutex
pub mutex_spelled :
    (n : ℕ) (p : Protocol)
    → ended (spelled (lines.Mutex n p))
    ≡ codes "mutex " ++ (decimal n ++ (codes " " ++ (protocol_text p ++ codes "\n")))
mutex_spelled n p =
    ap (λ t. ended (codes "mutex " ++ t)) (before_protocol (decimal n) p) ∙ simp append_assoc

-- words before other words
join-append :
    (v : List ℕ) (vs : List (List ℕ)) (w : List ℕ) (ws : List (List ℕ))
    → join_with_byte SPACE (v ∷ (vs ++ w ∷ ws))
    ≡ join_with_byte SPACE (v ∷ vs) ++ (codes " " ++ join_with_byte SPACE (w ∷ ws))
join-append v [] w ws = refl
join-append v (u ∷ vs) w ws =
    ap (λ t. v ++ (codes " " ++ t)) (join-append u vs w ws)
    ∙ sym (append_assoc v (codes " " ++ join_with_byte SPACE (u ∷ vs)) _)

-- the parts of the line
pub entry_spelled :
    (e : Entry)
    → ended (spelled (lines.Step (entry_line e)))
    ≡ decimal e.step.actor ++ (codes " " ++ (op_text e.step.op ++ (codes " = " ++ (reply_text e.reply ++ codes "\n"))))
entry_spelled e =
    let a = decimal e.step.actor in
    let whole = join-append a (op_words e.step.op) (codes "=") (reply_words e.reply) in
    let front = before_op a e.step.op in
    let back = before_reply (codes "=") e.reply in
    ap ended (whole ∙ ap₂ (λ s t. s ++ (codes " " ++ t)) front back) ∙ simp append_assoc
