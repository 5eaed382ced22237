use Rattle.std.proofs.Common.{◌≡◌, ◌++◌, ◌∷◌, decimal}
use Rattle.std.specs.Prelude.{flat_map, take}
use Rattle.pim_spans.specs.Words.{word_text}
use Rattle.pim_spans.proofs.text.put_line.Given as goal

-- the word and the numbers so far
abbrev pub invariant-loop-number : goal.invariant-loop-number
invariant-loop-number l =
    l.out.items ≡ l.fn.out.items
    ++ (word_text l.fn.kind ++ flat_map (λ n. 32 ∷ decimal n) (take l.number-index l.numbers))
