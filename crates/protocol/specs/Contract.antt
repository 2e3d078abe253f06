-- What the contracts of the code say of a function that makes a call. A primed name is the value afterwards.
-- Assumes nothing.
use Rattle.std.specs.Prelude.{◌≡◌, ℕ}
use Rattle.protocol.specs.Answer.{Answer, answer_number}
use Rattle.protocol.specs.Calls.{Call, Lent, answer, left}
use Rattle.protocol.specs.Suite.{suite}

-- w is all that the function is lent to change, a what it answers
pub record Makes (c : Call) (w : Lent) (a : Answer) (w' : Lent) : Type 0 where
  pub answers : a ≡ answer suite c w
  pub leaves : w' ≡ left suite c w

-- the same of a function that returns the number n alone
pub record Returns (c : Call) (w : Lent) (n : ℕ) (w' : Lent) : Type 0 where
  pub number : n ≡ answer_number (answer suite c w)
  pub leaves : w' ≡ left suite c w
