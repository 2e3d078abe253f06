-- The struct of the code, any bytes of which C may lend, read as the record of the rules; and the record of the rules as the code stores it.
-- Assumes nothing.
use Rattle.std.specs.Prelude.{Bool, true, false, cond, not, ◌&&◌, ℕ, ◌+◌, leb, eqb, take, replicate}
use Rattle.octets.specs.Blocks.{zero_padded}
use Rattle.protocol.specs.Connection.{cipher_key_bytes, last_counter}
use Rattle.protocol.specs.SessionTable as table
use Rattle.connection.specs.Reading.{flag, bit_of}
use Rattle.session_record.specs.declared.Session.{Session}

-- how many bytes of its place a cipher key takes
abbrev pub key_bytes : Session → ℕ
key_bytes s = cipher_key_bytes (flag s.wide)

abbrev pub session_of : Session → table.Session
session_of s =
    record {
      used = flag s.used;
      id = s.id;
      guest = flag s.guest;
      anonymous = flag s.anonymous;
      wide = flag s.wide;
      keys =
          record {
            signing = s.signing;
            application = s.application;
            client_to_server = take (key_bytes s) s.client_to_server;
            server_to_client = take (key_bytes s) s.server_to_client;
          };
      counter = s.counter;
    }

-- a record as the library stores it, every byte of it: flags are 0 or 1, and what is behind a cipher key of 16 bytes and the spare bytes 0
abbrev pub stored : table.Session → Session
stored s =
    record {
      id = s.id;
      counter = s.counter;
      signing = s.keys.signing;
      application = s.keys.application;
      client_to_server = zero_padded 32 s.keys.client_to_server;
      server_to_client = zero_padded 32 s.keys.server_to_client;
      used = bit_of s.used;
      guest = bit_of s.guest;
      anonymous = bit_of s.anonymous;
      wide = bit_of s.wide;
      spare = replicate 4 0;
    }

-- a free record, all zero
abbrev pub free : Session
free = stored table.free_record

-- the record with another counter, and every other byte as it was
abbrev pub with_counter : ℕ → Session → Session
with_counter n s =
    record {
      id = s.id;
      counter = n;
      signing = s.signing;
      application = s.application;
      client_to_server = s.client_to_server;
      server_to_client = s.server_to_client;
      used = s.used;
      guest = s.guest;
      anonymous = s.anonymous;
      wide = s.wide;
      spare = s.spare;
    }

-- the counter up by that many, and unchanged where it would pass the last
unfoldable pub stepped : ℕ → Session → Session
stepped by s = cond (leb (s.counter + by) last_counter) (with_counter (s.counter + by) s) s

-- what a search wants: where it asks for a used record, the session of the id; else a free one
abbrev pub is_wanted : Bool → ℕ → Session → Bool
is_wanted true id s = flag s.used && eqb s.id id
is_wanted false id s = not (flag s.used)
