-- What a record of a trace does in the lab: RULES 16. A record makes one call.
-- Assumes nothing.
use Rattle.std.specs.Prelude.{◌≡◌, Bool, true, false, cond, List, ℕ, eqb, replicate}
use Rattle.octets.specs.Numbers.{bytes_at, big_endian}
use Rattle.protocol.specs.Bytes.{Bytes}
use Rattle.protocol.specs.Answer.{answer_number}
use Rattle.protocol.specs.Connection.{Role, client, server, Connection}
use Rattle.protocol.specs.Preauth.{FoldKind, negotiate_message, setup_request, setup_response, fresh_chain}
use Rattle.protocol.specs.SessionTable.{Session, Adding, free_record}
use Rattle.protocol.specs.Calls.{Call, folding, opening, adding, Lent, only_chain, only_table, message_and_table, answer, left}
use Rattle.protocol.specs.Suite.{suite}

-- the lab: dialect and cipher of the file head, the connection's chain, the session chain, the table
pub record State : Type 0 where
  pub dialect : ℕ
  pub cipher : ℕ
  pub connection : Bytes
  pub session : Bytes
  pub table : List Session

-- fresh chains, and "a table of 16" with no session
abbrev pub fresh_state : ℕ → ℕ → State
fresh_state d c = record { dialect = d; cipher = c; connection = fresh_chain; session = fresh_chain; table = replicate 16 free_record }

-- ---- the call that a record makes

-- "0 folds on the connection, 1 on the session chain": a setup response is from the server
abbrev pub setup_kind : Bool → FoldKind
setup_kind true = setup_response
setup_kind false = setup_request

-- "2 is opened by its receiver (encryption on, no constraint)"
abbrev pub receiver : Bool → Role
receiver true = client
receiver false = server

abbrev pub receiving : Bool → State → Connection
receiving d s = record { role = receiver d; dialect = s.dialect; encryption = true; cipher = s.cipher; constrained = false }

-- "3 adds a plain session from the session chain": "8-byte id, high byte first, 16-byte key"
abbrev pub lab_session : Bytes → State → Adding
lab_session m s =
    record {
      dialect = s.dialect;
      cipher = s.cipher;
      chain = s.session;
      id = big_endian (bytes_at 0 8 m);
      material = bytes_at 8 16 m;
      guest = false;
      anonymous = false;
    }

-- of a record's kind, whether it is from the server, and its payload m
unfoldable pub call_of : ℕ → Bool → Bytes → State → Call
call_of kind d m s =
    cond (eqb kind 0) (folding negotiate_message m)
    (cond (eqb kind 1) (folding (setup_kind d) m)
    (cond (eqb kind 2) (opening (receiving d s))
    (adding (lab_session m s))))

-- what the call is lent
unfoldable pub lent_to : ℕ → Bytes → State → Lent
lent_to kind m s =
    cond (eqb kind 0) (only_chain s.connection)
    (cond (eqb kind 1) (only_chain s.session)
    (cond (eqb kind 2) (message_and_table m s.table)
    (only_table s.table)))

-- ---- what it answers, and what is there afterwards

abbrev pub step_number : ℕ → Bool → Bytes → State → ℕ
step_number kind d m s = answer_number (answer suite (call_of kind d m s) (lent_to kind m s))

abbrev pub left_by : ℕ → Bool → Bytes → State → Lent
left_by kind d m s = left suite (call_of kind d m s) (lent_to kind m s)

-- with another session chain
abbrev pub with_session : Bytes → State → State
with_session v s = record { dialect = s.dialect; cipher = s.cipher; connection = s.connection; session = v; table = s.table }

-- "after a 0 or 3 the session chain is the connection's"
abbrev pub negotiated : Bytes → State → State
negotiated v s = record { dialect = s.dialect; cipher = s.cipher; connection = v; session = v; table = s.table }

abbrev pub joined : List Session → State → State
joined t s = record { dialect = s.dialect; cipher = s.cipher; connection = s.connection; session = s.connection; table = t }

unfoldable pub step_state : ℕ → Bool → Bytes → State → State
step_state kind d m s =
    cond (eqb kind 0) (negotiated (left_by kind d m s).chain s)
    (cond (eqb kind 1) (with_session (left_by kind d m s).chain s)
    (cond (eqb kind 2) s
    (joined (left_by kind d m s).table s)))

-- what the lent payload holds afterwards: opening leaves the plaintext in it
unfoldable pub step_payload : ℕ → Bool → Bytes → State → Bytes
step_payload kind d m s = cond (eqb kind 2) (left_by kind d m s).message m

-- a primed name is the value afterwards
pub record Steps (kind : ℕ) (d : Bool) (m m' : Bytes) (s : State) (number : ℕ) (s' : State) : Type 0 where
  pub answers : number ≡ step_number kind d m s
  pub leaves : s' ≡ step_state kind d m s
  pub bytes : m' ≡ step_payload kind d m s
