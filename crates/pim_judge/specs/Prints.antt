-- What is printed to a stream, and how it stops.
use Rattle.std.specs.Prelude.{ℕ, ◌≡◌, List, ◌⊎◌, Result, MatchResult}
use Rattle.pim_page.specs.Ends.{Told, AppendsFront, Fails, Puts}
use Rattle.pim_judge.specs.declared.fault.Fault.{Fault}
use Rattle.pim_judge.specs.declared.fault.Fault.TheVariants as faults

-- a prefix of the bytes was appended before a write or an allocation failed
pub record Stops (old new : Told) (bytes : List ℕ) (fault : Fault) : Type 0 where
  pub contents : AppendsFront old.contents new.contents bytes
  pub write : fault ≡ faults.Write → Fails old new
  pub others : (fault ≡ faults.Write) ⊎ (fault ≡ faults.Memory)

-- the bytes without those that are still in the page were appended, or it stopped
abbrev pub Prints : {T : Type 0} → Told → Told → List ℕ → List ℕ → Result T Fault → Type 0
Prints {T} old new bytes page result = MatchResult result (λ done. Puts old new bytes page) (Stops old new bytes)
