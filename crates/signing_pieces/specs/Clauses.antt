-- What the functions promise of any state: every byte of what is handed back and left. And what that is of a state that stands for a message, as
-- calls make them: what its call answers and leaves.
-- Assumes nothing.
use Rattle.std.specs.Prelude.{◌≡◌, cond, not, ℕ, ◌<◌, eqb, length, get_or}
use Rattle.protocol.specs.Bytes.{Bytes}
use Rattle.protocol.specs.Answer.{answer_number}
use Rattle.protocol.specs.Pieces.{Underway, not_begun}
use Rattle.protocol.specs.Calls.{Call, sign_beginning, sign_piece, sign_finishing, verify_finishing, only_underway, only_signature, answer, left}
use Rattle.protocol.specs.Contract.{Returns}
use Rattle.protocol.specs.Suite.{suite}
use Rattle.signing_pieces.specs.declared.SignState.{SignState}
use Rattle.signing_pieces.specs.declared.SignStep.{SignStep}
use Rattle.signing_pieces.specs.Running.{takes, begun_under, joined_by, joined_else, signature_from, compared_number, StandsFor, no_message, step_with}

-- ---- any state

-- what a begin under the key hands back
unfoldable pub begin_step : Bytes → SignStep
begin_step key = cond (eqb (length key) 16) (step_with (begun_under key) 0) (step_with no_message 40)

-- what the piece p hands back
unfoldable pub piece_step : SignState → Bytes → SignStep
piece_step s p = cond (takes s (length p)) (step_with (joined_by s p) 0) (step_with s 3)

-- signing: the number, and what the place for the signature holds afterwards
unfoldable pub sign_number : SignState → Bytes → ℕ
sign_number s place = cond (not (eqb (length place) 16)) 40 (joined_else s 0)

unfoldable pub sign_place : SignState → Bytes → Bytes
sign_place s place = cond (eqb (sign_number s place) 0) (signature_from s) place

-- verifying
unfoldable pub verify_number : SignState → ℕ
verify_number s = joined_else s (compared_number s)

-- a finish hands back the state with no message, whatever it answers
pub record Signs (s : SignState) (place : Bytes) (r : SignStep) (place' : Bytes) : Type 0 where
  pub hands_back : r ≡ step_with no_message (sign_number s place)
  pub leaves : place' ≡ sign_place s place

-- ---- a state that stands for a message

-- the call c answers, and hands the state on
pub record HandsOn (c : Call) (u : Underway) (r : SignStep) : Type 0 where
  pub number : r.number ≡ answer_number (answer suite c (only_underway u))
  pub stands : StandsFor r.state (left suite c (only_underway u)).underway

-- the steps above are what the calls answer and leave. Where a message is verified, its header is made of bytes
pub record InCalls : Type 0 where
  pub begins : (key : Bytes) → HandsOn (sign_beginning key) not_begun (begin_step key)
  pub takes-pieces : (s : SignState) (u : Underway) → StandsFor s u → (p : Bytes) → HandsOn (sign_piece p) u (piece_step s p)
  pub signs : (s : SignState) (u : Underway) → StandsFor s u → (place : Bytes)
      → Returns (sign_finishing u) (only_signature place) (sign_number s place) (only_signature (sign_place s place))
  pub verifies : (s : SignState) (u : Underway) → StandsFor s u → ((i : ℕ) → get_or s.header i 0 < 256)
      → Returns (verify_finishing u) (only_underway not_begun) (verify_number s) (only_underway not_begun)
