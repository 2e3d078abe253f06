-- Helper definitions of adding: what it does with the record of the id, if there is one, and with the one at the first free place.
-- Assumes nothing.
use Rattle.std.specs.Prelude.{◌≡◌, Bool, cond, ◌||◌, ℕ, replicate, Result, Ok, Err}
use Rattle.protocol.specs.Bytes.{Bytes}
use Rattle.protocol.specs.Answer.{answer_number, when_done}
use Rattle.protocol.specs.Connection.{is_wide}
use Rattle.protocol.specs.SessionTable as table
use Rattle.protocol.specs.Calls.{lines, verdict, add_tests}
use Rattle.protocol.specs.Suite.{kdf}
use Rattle.answer.specs.declared.refusal.Refusal.{Refusal}
use Rattle.connection.specs.declared.Connection.{Connection}
use Rattle.connection.specs.Reading.{flag, bit_of}
use Rattle.derived_keys.specs.declared.Keys.{Keys}
use Rattle.session_record.specs.declared.Adding.{Adding}
use Rattle.session_record.specs.declared.Session.{Session}
use Rattle.session_record.specs.Reading.{stored}

-- what C asks for, as numbers: of the connection dialect and cipher count
abbrev pub adding_for : Connection → ℕ → ℕ → ℕ → Adding
adding_for c id guest anonymous = record { dialect = c.dialect; cipher = c.cipher; id = id; guest = flag guest; anonymous = flag anonymous }

-- what adding is given
abbrev pub adding_of : Adding → Bytes → Bytes → table.Adding
adding_of a chain material =
    record { dialect = a.dialect; cipher = a.cipher; chain = chain; id = a.id; material = material; guest = a.guest; anonymous = a.anonymous }

-- the record with these keys, as the library stores it
unfoldable pub record_with : Adding → Keys → Session
record_with a k =
    record {
      id = a.id;
      counter = 0;
      signing = k.signing;
      application = k.application;
      client_to_server = cond (a.guest || a.anonymous) (table.zero_key 32) k.client_to_server;
      server_to_client = cond (a.guest || a.anonymous) (table.zero_key 32) k.server_to_client;
      used = 1;
      guest = bit_of a.guest;
      anonymous = bit_of a.anonymous;
      wide = bit_of (is_wide a.dialect a.cipher);
      spare = replicate 4 0;
    }

-- the record that adding made, or the one that stood at its place
abbrev pub made_or : Session → Result Session Refusal → Session
made_or old (Ok new) = new
made_or old (Err why) = old

-- adding, where old stands at the first free place: the number is n, and new stands there afterwards, byte for byte
pub record AddsWith (a : table.Adding) (taken room : Bool) (old : Session) (n : ℕ) (new : Session) : Type 0 where
  pub number : n ≡ answer_number (verdict (lines (add_tests a taken room)))
  pub session : new ≡ when_done (verdict (lines (add_tests a taken room))) (λ k. stored (table.new_record kdf a)) old
