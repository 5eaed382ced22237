-- What words spell, by what they begin with.
use Rattle.std.proofs.Common.{◌≡◌, ℕ, List, [], ◌∷◌, codes, arith, sym, ◌∙◌, ap, None, rules}
use Rattle.std.specs.List.{join_with_byte}
use Rattle.std.proofs.lemmas.List.Splits.{join_with_byte-slice_split}
use Rattle.std.specs.Fmt.{decimal}
use Rattle.pim_base.specs.declared.steps.Protocol.{Protocol}
use Rattle.pim_base.specs.declared.lines.StepLine.{StepLine}
use Rattle.pim_base.specs.declared.lines.Line.TheVariants as lines
use Rattle.pim_base.specs.Spelling.{SPACE, IsNumber, IsPrio, IsProtocol, IsLine, protocol_words, step_words}
use Rattle.pim_text.specs.Reading.{words, Reads, ReadsAs}
use Rattle.pim_text.proofs.NumberLemmas.{no_number}
use Rattle.pim_text.proofs.WordLemmas.{only_word}

-- ---- protocols

-- bytes of these two words have a space between them
both_words : (bytes : List ℕ) → words bytes ≡ codes "inherit" ∷ codes "recursive" ∷ [] → bytes ≡ codes "inherit recursive"
both_words bytes e = sym (join_with_byte-slice_split SPACE bytes) ∙ ap (join_with_byte SPACE) e

pub no_protocol :
    (rest : List ℕ)
    → (rest ≡ codes "none" → ⊥)
    → (rest ≡ codes "inherit" → ⊥)
    → (rest ≡ codes "inherit recursive" → ⊥)
    → ((c : ℕ) → IsPrio c → words rest ≡ codes "protect" ∷ decimal c ∷ [] → ⊥)
    → ReadsAs IsProtocol protocol_words (words rest) None
no_protocol rest none inherit recursive protect h is e = grind (arith, only_word, both_words)

-- one word is no PROTECT protocol
pub no_ceiling :
    (ws : List (List ℕ)) (w : List ℕ)
    → ws ≡ w ∷ []
    → (c : ℕ)
    → IsPrio c
    → ws ≡ codes "protect" ∷ decimal c ∷ []
    → ⊥
no_ceiling ws w one c is e = let both = sym one ∙ e in cc

pub bad_ceiling :
    (ws : List (List ℕ)) (w ceiling : List ℕ)
    → ws ≡ w ∷ words ceiling
    → ReadsAs IsPrio decimal ceiling None
    → (c : ℕ)
    → IsPrio c
    → ws ≡ codes "protect" ∷ decimal c ∷ []
    → ⊥
bad_ceiling ws w ceiling cut none c is e = none c is (only_word ceiling (decimal c) (let both = sym cut ∙ e in cc))

pub not_protect :
    (ws : List (List ℕ)) (w : List ℕ) (tail : List (List ℕ))
    → ws ≡ w ∷ tail
    → (w ≡ codes "protect" → ⊥)
    → (c : ℕ)
    → IsPrio c
    → ws ≡ codes "protect" ∷ decimal c ∷ []
    → ⊥
not_protect ws w tail cut other c is e = other (let both = sym cut ∙ e in cc)

-- ---- lines of tasks

no_task :
    (ws : List (List ℕ))
    → ((n p : ℕ) → IsNumber n → IsPrio p → ws ≡ decimal n ∷ decimal p ∷ [] → ⊥)
    → Reads (codes "task" ∷ ws) None
no_task ws none (lines.Task n p) is e = none n p is.0 is.1 (cc)
no_task ws none (lines.Mutex n p) is e = cc
no_task ws none (lines.Step line) is e = no_number line.step.actor (codes "task") is.0 (cc) (omega arith)

pub task_no_number :
    (ws : List (List ℕ)) (first : List ℕ) (tail : List (List ℕ))
    → ws ≡ first ∷ tail
    → ReadsAs IsNumber decimal first None
    → Reads (codes "task" ∷ ws) None
task_no_number ws first tail cut none = no_task ws (λ n p is prio e. none n is (let both = sym cut ∙ e in cc))

pub task_no_base :
    (ws : List (List ℕ)) (first base : List ℕ)
    → ws ≡ first ∷ words base
    → ReadsAs IsPrio decimal base None
    → Reads (codes "task" ∷ ws) None
task_no_base ws first base cut none = grind (arith, no_task, only_word)

pub task_only_number : (ws : List (List ℕ)) (first : List ℕ) → ws ≡ first ∷ [] → Reads (codes "task" ∷ ws) None
task_only_number ws first cut = no_task ws (λ n p is prio e. let both = sym cut ∙ e in cc)

-- ---- lines of mutexes

no_mutex :
    (ws : List (List ℕ))
    → ((n : ℕ) (p : Protocol) → IsNumber n → IsProtocol p → ws ≡ decimal n ∷ protocol_words p → ⊥)
    → Reads (codes "mutex" ∷ ws) None
no_mutex ws none (lines.Task n p) is e = cc
no_mutex ws none (lines.Mutex n p) is e = none n p is.0 is.1 (cc)
no_mutex ws none (lines.Step line) is e = no_number line.step.actor (codes "mutex") is.0 (cc) (omega arith)

pub mutex_no_number :
    (ws : List (List ℕ)) (first : List ℕ) (tail : List (List ℕ))
    → ws ≡ first ∷ tail
    → ReadsAs IsNumber decimal first None
    → Reads (codes "mutex" ∷ ws) None
mutex_no_number ws first tail cut none = no_mutex ws (λ n p is fits e. none n is (let both = sym cut ∙ e in cc))

pub mutex_no_protocol :
    (ws : List (List ℕ)) (first : List ℕ) (tail : List (List ℕ))
    → ws ≡ first ∷ tail
    → ReadsAs IsProtocol protocol_words tail None
    → Reads (codes "mutex" ∷ ws) None
mutex_no_protocol ws first tail cut none = no_mutex ws (λ n p is fits e. none p fits (let both = sym cut ∙ e in cc))

-- no protocol has no word
pub no_word_protocol : ReadsAs IsProtocol protocol_words [] None
no_word_protocol h is e = search rules

-- ---- step lines

-- words that begin with a number are no declaration
pub no_step :
    (actor : ℕ) (ws : List (List ℕ))
    → IsNumber actor
    → ((line : StepLine) → IsLine (lines.Step line) → decimal actor ∷ ws ≡ step_words line → ⊥)
    → Reads (decimal actor ∷ ws) None
no_step actor ws is none (lines.Task n p) h e = no_number actor (codes "task") is (cc) (omega arith)
no_step actor ws is none (lines.Mutex n p) h e = no_number actor (codes "mutex") is (cc) (omega arith)
no_step actor ws is none (lines.Step line) h e = none line h e

-- no line is one word
pub no_single : (first : List ℕ) → Reads (first ∷ []) None
no_single first h is e = search rules
