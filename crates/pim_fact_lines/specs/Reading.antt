-- What the functions that read a line return, as words.
use Rattle.std.specs.Prelude.{ℕ, List, [], Option, Some, None}
use Rattle.std.specs.Option.{option_map}
use Rattle.std.specs.Borrow.{Bor}
use Rattle.pim_fact_lines.specs.Words.{words}
use Rattle.pim_fact_lines.specs.Lines.{First}

-- the words of the bytes after a space, or no words if there was no space
abbrev pub words_after : Option (Bor (List ℕ)) → List (List ℕ)
words_after None = []
words_after (Some rest) = words rest.now

-- what was read, and the words of the bytes after it
abbrev pub first_of : {A : Type 0} → Option (A × Option (Bor (List ℕ))) → First A
first_of result = option_map (λ read. (read.0, words_after read.1)) result
