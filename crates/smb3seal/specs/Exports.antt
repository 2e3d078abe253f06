-- What the calls from C promise besides the number that is returned and what is left: h is what the place for that which a done answer
-- carries held (the number of inner headers, or whether a message was folded in), h' what it holds afterwards.
-- Assumes nothing.
use Rattle.std.specs.Prelude.{◌≡◌, ℕ}
use Rattle.protocol.specs.Answer.{carried}
use Rattle.protocol.specs.Calls.{Call, Lent, answer}
use Rattle.protocol.specs.Contract.{Returns}
use Rattle.protocol.specs.Suite.{suite}

pub record Reports (c : Call) (w : Lent) (n : ℕ) (w' : Lent) (h h' : ℕ) : Type 0 where
  pub returns : Returns c w n w'
  pub reports : h' ≡ carried (answer suite c w) h
