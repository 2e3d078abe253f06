-- A message that arrives in pieces: RULES 8. It is begun, takes pieces, and is finished or abandoned. Here it is folded; SigningPieces has the
-- same of a message that is signed or verified.
-- Assumes nothing.
use Rattle.std.specs.Prelude.{Bool, true, false, cond, ◌&&◌, [], ◌++◌, ◌+◌, leb, length}
use Rattle.protocol.specs.Bytes.{Bytes}
use Rattle.protocol.specs.Connection.{longest_message}
use Rattle.protocol.specs.Preauth.{FoldKind, status_allows}

-- what a state stands for: whether a message is under way, "the value the message began from" (or its signing key), and "the joined bytes of
-- the pieces not refused"
pub record Underway : Type 0 where
  pub begun : Bool
  pub start : Bytes
  pub joined : Bytes

abbrev pub begun_from : Bytes → Underway
begun_from v = record { begun = true; start = v; joined = [] }

-- no message: none was begun, or it has ended
abbrev pub not_begun : Underway
not_begun = record { begun = false; start = []; joined = [] }

-- the piece does not "pass the length limit". With no message under way none fits: our answer, which the papers leave free
abbrev pub piece_fits : Underway → Bytes → Bool
piece_fits u p = u.begun && leb (length u.joined + length p) longest_message

unfoldable pub with_piece : Bytes → Underway → Underway
with_piece p u = record { begun = u.begun; start = u.start; joined = u.joined ++ p }

-- what is folded at the finish: with no message under way nothing, which is under 64 bytes
abbrev pub message_of : Underway → Bytes
message_of u = cond u.begun u.joined []

-- what a finish that is done leaves of the lent value v: "one fold of the joined bytes .. into the value the message began from". "the status
-- is read from the joined bytes", and another one leaves the value
unfoldable pub finished_value : (Bytes → Bytes) → FoldKind → Bytes → Underway → Bytes
finished_value sha512 kind v u = cond (status_allows kind (message_of u)) (sha512 (u.start ++ message_of u)) v
