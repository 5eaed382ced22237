-- The words of a line by their places, counted from 0.
use Rattle.std.specs.Prelude.{ℕ, ◌≡◌, List, slice_get, Some, None, decimal}
use Rattle.pim_base.specs.Spelling.{IsNumber}
use Rattle.pim_text.specs.Reading.{words}
use Rattle.pim_text.specs.declared.explaining.word.NumberAt.{NumberAt}
use Rattle.pim_text.specs.declared.explaining.word.NumberAt.TheVariants as numbers

-- word k of the line is this one
abbrev pub IsWord : List ℕ → ℕ → List ℕ → Type 0
IsWord line k word = slice_get (words line) k ≡ Some word

-- the line has a word k, which spells no number of this kind
abbrev pub Misspells : (ℕ → Type 0) → List ℕ → ℕ → Type 0
Misspells Is line k = (word : List ℕ) × IsWord line k word × ((n : ℕ) → Is n → word ≡ decimal n → ⊥)

-- what is at a place where a number is wanted
abbrev pub IsNumberAt : List ℕ → ℕ → NumberAt → Type 0
IsNumberAt line k numbers.Missing = slice_get (words line) k ≡ None
IsNumberAt line k numbers.Wrong = Misspells IsNumber line k
IsNumberAt line k (numbers.Value n) = IsNumber n × IsWord line k (decimal n)
