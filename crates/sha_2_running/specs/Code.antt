-- The code's running state, with its words by their numbers, for its contracts.
-- Assumes nothing.
use Rattle.std.specs.Prelude.{ℕ, map}
use Rattle.sha_2.specs.Running.{State}
use Rattle.sha_2_running.specs.declared.Running.{Running}

abbrev pub state : {W : Type 0} {rounds block digest : ℕ} → (W → ℕ) → Running W rounds block digest → State
state value s = record { hash = map value s.hash; buffer = s.buffer; count = s.count }
