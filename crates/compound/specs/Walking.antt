-- What the steps of the walk promise: which header comes next, or which test refuses it.
-- Assumes nothing.
use Rattle.std.specs.Prelude.{◌≡◌, ◌≢◌, ℕ, ◌+◌, Option, Some, None, Result, Ok, Err}
use Rattle.std.specs.Result.{IfOk}
use Rattle.protocol.specs.Bytes.{Bytes}
use Rattle.protocol.specs.Answer.{first_of}
use Rattle.protocol.specs.InnerHeader.{next_command, Envelope}
use Rattle.protocol.specs.Compound.{first_header_tests, next_header_tests}
use Rattle.answer.specs.declared.refusal.Refusal.{Refusal}
use Rattle.answer.specs.Reading.{number_in, number_of}
use Rattle.compound.specs.declared.header.InnerHeader.{InnerHeader}

-- h is the header at the place p of the message m
pub record Stands (m : Bytes) (p : ℕ) (h : InnerHeader) : Type 0 where
  pub of_message : h.message.now ≡ m
  pub at_place : h.at ≡ p

-- the first header is judged
pub record First (m : Bytes) (e : Envelope) (r : Result InnerHeader Refusal) : Type 0 where
  pub number : number_in r ≡ first_of (first_header_tests m e)
  pub found : IfOk r (Stands m 0)

-- and the one d bytes after that at p
pub record Ahead (m : Bytes) (e : Envelope) (p d : ℕ) (r : Result InnerHeader Refusal) : Type 0 where
  pub number : number_in r ≡ first_of (next_header_tests m e p d)
  pub found : IfOk r (Stands m (p + d))

-- the one after that at p, if the chain goes on
abbrev pub Next : Bytes → Envelope → ℕ → Result (Option InnerHeader) Refusal → Type 0
Next m e p (Ok None) = next_command m p ≡ 0
Next m e p (Ok (Some h)) = (next_command m p ≢ 0) × Ahead m e p (next_command m p) (Ok h)
Next m e p (Err why) = (next_command m p ≢ 0) × (number_of why ≡ first_of (next_header_tests m e p (next_command m p)))
