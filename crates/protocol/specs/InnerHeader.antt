-- Fields of the inner header at place p of the message m: RULES 9; MS-SMB2 2.2.1.2.
-- Assumes nothing.
use Rattle.std.specs.Prelude.{Bool, ◌&&◌, ◌||◌, [], ◌∷◌, ℕ, ◌+◌, ◌/◌, ◌%◌, eqb}
use Rattle.octets.specs.Numbers.{bytes_at}
use Rattle.octets.specs.Same.{same_bytes}
use Rattle.protocol.specs.Bytes.{Bytes, number_at}

-- it begins FE 53 4D 42
abbrev pub is_inner_header : Bytes → ℕ → Bool
is_inner_header m p = same_bytes (bytes_at p 4 m) (0xFE ∷ 0x53 ∷ 0x4D ∷ 0x42 ∷ [])

-- "Flags are at 16..20 (related is 0x00000004)": SMB2_FLAGS_RELATED_OPERATIONS
abbrev pub is_related : Bytes → ℕ → Bool
is_related m p = eqb (number_at (p + 16) 4 m / 4 % 2) 1

-- "NextCommand at 20..24"
abbrev pub next_command : Bytes → ℕ → ℕ
next_command m p = number_at (p + 20) 4 m

-- "SessionId at 40..48"
abbrev pub inner_session_id : Bytes → ℕ → ℕ
inner_session_id m p = number_at (p + 40) 8 m

-- "Command (bytes 12..14)"
abbrev pub command : Bytes → ℕ → ℕ
command m p = number_at (p + 12) 2 m

-- "MessageId (24..32)"
abbrev pub message_id : Bytes → ℕ → ℕ
message_id m p = number_at (p + 24) 8 m

-- a break notice: "Command 0x0012 .., MessageId .. all ones and SessionId 0" (MS-SMB2 2.2.23)
abbrev pub is_break_notice : Bytes → ℕ → Bool
is_break_notice m p = eqb (command m p) 0x0012 && eqb (message_id m p) 0xFFFFFFFFFFFFFFFF && eqb (inner_session_id m p) 0

-- what is known of an inner message from outside: the id of the session that it is sealed for, and whether it comes from the server
pub record Envelope : Type 0 where
  pub id : ℕ
  pub from_server : Bool

-- the header at p belongs to the session: it has the session's id, or is a break notice from the server
abbrev pub belongs : Bytes → Envelope → ℕ → Bool
belongs m e p = (e.from_server && is_break_notice m p) || eqb (inner_session_id m p) e.id
