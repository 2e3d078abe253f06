-- The code's running state, for its contracts: what a piece and the end make of any state, by its own fields, and which states hold a message.
-- Assumes nothing.
use Rattle.std.specs.Prelude.{ℕ, List}
use Rattle.sha_2.specs.Running as running
use Rattle.sha_2.specs.Running.{State}
use Rattle.sha_2.specs.Sha512.{sha512}
use Rattle.sha512.specs.declared.Sha512.{Sha512}

-- the fields as the definitions have them, and back
abbrev pub state : Sha512 → State
state s = record { hash = s.hash; buffer = s.buffer; count = s.count }

abbrev pub of : State → Sha512
of s = record { hash = s.hash; buffer = s.buffer; count = s.count }

-- ---- any state

-- the state to begin with
unfoldable pub nothing_taken : Sha512
nothing_taken = of (running.nothing_taken sha512)

-- after a piece x
unfoldable pub updated : Sha512 → List ℕ → Sha512
updated s x = of (running.updated sha512 (state s) x)

-- the end: the bytes that wait, and the padding behind them
unfoldable pub finished : Sha512 → List ℕ
finished s = running.finished sha512 (state s)

-- ---- the states that calls make

-- s has taken in the bytes m
abbrev pub Holds : Sha512 → List ℕ → Type 0
Holds s m = running.Holds sha512 s.count s.buffer s.hash m
