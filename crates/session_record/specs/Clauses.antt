-- What the calls with the session table do with the one record that lookup took. A primed name is the value afterwards.
-- Assumes nothing.
use Rattle.std.specs.Prelude.{◌≡◌, ℕ}
use Rattle.protocol.specs.Bytes.{Bytes}
use Rattle.protocol.specs.Answer.{Answer, when_done}
use Rattle.protocol.specs.Connection.{Connection}
use Rattle.protocol.specs.SessionTable.{Session}
use Rattle.protocol.specs.Transform.{opened_to}
use Rattle.protocol.specs.Calls.{verdict, seal_tests, sealed_with, open_tests, plaintext}
use Rattle.protocol.specs.Suite.{suite}
use Rattle.transform_header.specs.Reading.{header_in}

-- sealing the message m for the session id with the record s: the answer is a
pub record SealsWith (s : Session) (c : Connection) (id : ℕ) (m m' : Bytes) (a : Answer) : Type 0 where
  pub answer : a ≡ verdict (seal_tests suite c m s id)
  pub bytes : m' ≡ when_done (verdict (seal_tests suite c m s id)) (λ n. sealed_with suite c m s id) m

-- how far sealing moves the counter
abbrev pub counter_moves : Answer → ℕ
counter_moves a = when_done a (λ n. 1) 0

-- opening the message m with the record s: the answer is a
pub record OpensWith (s : Session) (c : Connection) (m m' : Bytes) (a : Answer) : Type 0 where
  pub answer : a ≡ verdict (open_tests suite c m s)
  pub bytes : m' ≡ when_done (verdict (open_tests suite c m s)) (λ n. opened_to m (plaintext suite c m s)) m

-- the session that a message names, 0 where it is too short for a header
abbrev pub named_id : Bytes → ℕ
named_id m = (header_in m).session_id
