-- What reads and writes do to the contents of a stream, if they are known.
use Rattle.std.specs.Prelude.{ℕ, ◌≡◌, ◌+◌, ◌-◌, ◌^◌, ◌<◌, ◌≤◌, min, List, [], ◌++◌}
use Rattle.std.specs.Prelude.{Option, Some, None, ◌⊎◌}

-- what is known of a writer: its bytes, if they are known, how many writes failed, and how many took no byte of a piece
-- that wasn't empty
pub record Told : Type 0 where
  pub contents : Option (List ℕ)
  pub failures : ℕ
  pub stalls : ℕ

-- one more, up to the largest u64
abbrev pub one_more : ℕ → ℕ
one_more n = min (n + 1) (2 ^ 64 - 1)

-- something that is counted happened: its number rose, or was the largest already
abbrev pub Happened : ℕ → ℕ → Type 0
Happened old new = (old < new) ⊎ (2 ^ 64 - 1 ≤ old)

-- these bytes were taken off the front
abbrev pub TakesOff : Option (List ℕ) → Option (List ℕ) → List ℕ → Type 0
TakesOff None new bytes = Unit {0}
TakesOff (Some all) new bytes = (rest : List ℕ) × (all ≡ bytes ++ rest) × (new ≡ Some rest)

abbrev pub IsAtEnd : Option (List ℕ) → Type 0
IsAtEnd None = Unit {0}
IsAtEnd (Some all) = all ≡ []

-- these were all the bytes
abbrev pub ReadsAll : Option (List ℕ) → List ℕ → Type 0
ReadsAll None bytes = Unit {0}
ReadsAll (Some all) bytes = all ≡ bytes

-- these bytes were appended
abbrev pub Appends : Option (List ℕ) → Option (List ℕ) → List ℕ → Type 0
Appends None new bytes = Unit {0}
Appends (Some had) new bytes = new ≡ Some (had ++ bytes)

-- the bytes without the rest were appended
abbrev pub AppendsBut : Option (List ℕ) → Option (List ℕ) → List ℕ → List ℕ → Type 0
AppendsBut None new bytes rest = Unit {0}
AppendsBut (Some had) new bytes rest = (front : List ℕ) × (bytes ≡ front ++ rest) × (new ≡ Some (had ++ front))

-- a prefix of the bytes was appended
abbrev pub AppendsFront : Option (List ℕ) → Option (List ℕ) → List ℕ → Type 0
AppendsFront old new bytes = (rest : List ℕ) × AppendsBut old new bytes rest

-- a write failed, or took nothing of a piece that wasn't empty
abbrev pub Fails : Told → Told → Type 0
Fails old new = Happened old.failures new.failures ⊎ Happened old.stalls new.stalls

-- the bytes without the rest were appended, and no write failed
pub record Puts (old new : Told) (bytes rest : List ℕ) : Type 0 where
  pub contents : AppendsBut old.contents new.contents bytes rest
  pub failures : new.failures ≡ old.failures
  pub stalls : new.stalls ≡ old.stalls
