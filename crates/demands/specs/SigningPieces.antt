-- Signing and verifying in pieces: for every list of pieces, refused ones included, the finish is one signature, or one verification, of
-- "the joined bytes of the pieces not refused". RULES 15.
-- Of the suite.
-- Assumes nothing.
use Rattle.std.specs.Prelude.{◌≡◌, List, [], ◌∷◌, ◌++◌, ℕ, length}
use Rattle.protocol.specs.Bytes.{Bytes}
use Rattle.protocol.specs.Answer.{refused, done, when_done}
use Rattle.protocol.specs.Signing.{signature_field}
use Rattle.protocol.specs.Pieces.{Underway, not_begun}
use Rattle.protocol.specs.Calls.{signing_under, verifying_under, sign_beginning, sign_piece, sign_finishing, verify_finishing}
use Rattle.protocol.specs.Calls.{Lent, only_message, only_underway, only_signature, answer, left}
use Rattle.protocol.specs.Suite.{suite}

abbrev pub begun : Bytes → Underway
begun key = (left suite (sign_beginning key) (only_underway not_begun)).underway

abbrev pub handed_on : Underway → Bytes → Underway
handed_on u p = (left suite (sign_piece p) (only_underway u)).underway

-- "with the hash state handed on from piece to piece"
abbrev pub after_pieces : Underway → List Bytes → Underway
after_pieces u [] = u
after_pieces u (p ∷ ps) = after_pieces (handed_on u p) ps

-- "the joined bytes of the pieces not refused"
abbrev pub joined_not_refused : Underway → List Bytes → Bytes
joined_not_refused u [] = []
joined_not_refused u (p ∷ ps) = when_done (answer suite (sign_piece p) (only_underway u)) (λ n. p) [] ++ joined_not_refused (handed_on u p) ps

-- after a begin that was not refused: u is what the pieces left, and m the joined bytes of those that were not refused
pub record InPieces (key : Bytes) (u : Underway) (m : Bytes) : Type 0 where
  -- what the finish answers is what one signature of m is answered, and the 16 bytes are those that it stores
  pub signs : (place : Bytes) → length place ≡ 16 → answer suite (sign_finishing u) (only_signature place) ≡ answer suite (signing_under key) (only_message m)
  pub signature : (place : Bytes) (n : ℕ) → length place ≡ 16 → answer suite (sign_finishing u) (only_signature place) ≡ done n
      → (left suite (sign_finishing u) (only_signature place)).signature ≡ signature_field (left suite (signing_under key) (only_message m)).message
  -- and what it answers to a message to verify is what one verification of m is answered
  pub verifies : (w : Lent) → answer suite (verify_finishing u) w ≡ answer suite (verifying_under key) (only_message m)

pub record SigningPieces : Type 0 where
  pub in_pieces : (key : Bytes) (ps : List Bytes) (n : ℕ) → answer suite (sign_beginning key) (only_underway not_begun) ≡ done n
      → InPieces key (after_pieces (begun key) ps) (joined_not_refused (begun key) ps)
  -- with no message every piece is 3, and a finish 11: one whose begin was refused, or that has ended
  pub without_message : (ps : List Bytes) (w : Lent) → answer suite (verify_finishing (after_pieces not_begun ps)) w ≡ refused 11
  pub no_signature : (ps : List Bytes) (place : Bytes) → length place ≡ 16
      → answer suite (sign_finishing (after_pieces not_begun ps)) (only_signature place) ≡ refused 11
