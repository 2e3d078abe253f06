-- The code's running state as a value of the definitions, for its contracts.
-- Assumes nothing.
use Rattle.std.specs.Prelude.{ℕ, List}
use Rattle.sha_2.specs.Running as running
use Rattle.sha_2.specs.Sha256.{sha256}
use Rattle.sha_2_running.specs.declared.Running.{Running}

-- a word is a number
abbrev pub Sha256 : Type 0
Sha256 = Running ℕ 64 64 32

-- s has taken in the bytes m
abbrev pub Holds : Sha256 → List ℕ → Type 0
Holds s m = running.Holds sha256 s.count s.buffer s.hash m
