-- The judge's answer to its host.
use Rattle.std.specs.Prelude.{ℕ, ◌≡◌, List, ◌++◌, take, drop, length}
use Rattle.pim_base.specs.Texts.{Trace, Spells, lines_of}
use Rattle.pim_base.specs.Reports.{report_of, verdict_of}
use Rattle.pim_base.specs.declared.lines.Verdict.{Verdict}
use Rattle.pim_web.specs.declared.numbers.TheConstants.{ACCEPTED, REJECTED, NO_MEMORY}
use Rattle.pim_web.specs.declared.judged.CJudged.{CJudged}

-- the verdict on a text whose report has n bytes
abbrev pub verdict_on : Verdict → ℕ → CJudged
verdict_on (Verdict.Accepted k) n = record { kind = ACCEPTED; number = k; length = n }
verdict_on (Verdict.Rejected k) n = record { kind = REJECTED; number = k; length = n }

-- an allocation failed
abbrev pub no_memory : CJudged
no_memory = record { kind = NO_MEMORY; number = 0; length = 0 }

-- the buffer ys with its front overwritten by xs, as far as xs fits
abbrev pub copied_over : List ℕ → List ℕ → List ℕ
copied_over xs ys = take (length ys) xs ++ drop (length xs) ys

-- the bytes spell a trace, the answer is its verdict, and the buffer has its report, as far as it fits
abbrev pub IsJudged : List ℕ → List ℕ → List ℕ → CJudged → Type 0
IsJudged bytes old new judged =
    (t : Trace) × Spells (lines_of bytes) t × (judged ≡ verdict_on (verdict_of t) (length (report_of t)))
    × (new ≡ copied_over (report_of t) old)
