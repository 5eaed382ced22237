-- States with one thread or one mutex more.
use Rattle.std.specs.Prelude.{ℕ, [], ◌∷◌, ◌++◌, None}
use Rattle.pim_base.specs.State.{State}
use Rattle.pim_base.specs.declared.steps.Protocol.{Protocol}

-- a thread with this level, which owns nothing and doesn't wait
abbrev pub with_thread : State → ℕ → State
with_thread S level = record S { base = S.base ++ level ∷ []; wait = S.wait ++ None ∷ [] }

-- a mutex with this protocol, which is free
abbrev pub with_mutex : State → Protocol → State
with_mutex S protocol = record S {
  protocol = S.protocol ++ protocol ∷ [];
  owner = S.owner ++ None ∷ [];
  count = S.count ++ 0 ∷ [];
}
