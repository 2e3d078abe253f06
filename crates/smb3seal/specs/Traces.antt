-- What the calls from C with a lab trace promise: the number n, and what each lent place held before and holds afterwards (primed).
-- Assumes nothing.
use Rattle.std.specs.Prelude.{◌≡◌, Bool, List, ℕ, length}
use Rattle.trace_format.specs.Format.{Bytes, FileReading, Reading}
use Rattle.trace_writer.specs.Answers.{write_answer, room_after}
use Rattle.trace_places.specs.Places.{written_number, place_behind, file_number, edition_to, dialect_to, cipher_to}
use Rattle.trace_places.specs.Places.{reading_number, kind_to, from_server_to, payload_to, length_to, next_to}
use Rattle.trace_rescue.specs.Rescue.{roomy, rescued_file, gaps_of, rescue_answer, rescue_number, written_to, gaps_to}
use Rattle.trace_rescue.specs.Answers.{place_after}

-- bytes b, that are writable or not, for place p of the room
pub record WritesTrace (ok : Bool) (b room : Bytes) (p n : ℕ) (room' : Bytes) (at at' : ℕ) : Type 0 where
  pub number : n ≡ written_number (write_answer ok b (length room) p)
  pub bytes : room' ≡ room_after ok b room p
  pub place : at' ≡ place_behind (write_answer ok b (length room) p) at

pub record ReadsHead (r : FileReading) (n edition edition' dialect dialect' cipher cipher' : ℕ) : Type 0 where
  pub number : n ≡ file_number r
  pub its_edition : edition' ≡ edition_to r edition
  pub its_dialect : dialect' ≡ dialect_to r dialect
  pub its_cipher : cipher' ≡ cipher_to r cipher

pub record ReadsRecord (r : Reading) (n at at' kind kind' from from' payload payload' len len' : ℕ) : Type 0 where
  pub number : n ≡ reading_number r
  pub its_place : at' ≡ next_to r at
  pub its_kind : kind' ≡ kind_to r kind
  pub its_direction : from' ≡ from_server_to r from
  pub its_payload : payload' ≡ payload_to r payload
  pub its_length : len' ≡ length_to r len

-- of the trace f
pub record RescuesTrace (f : Bytes) (n : ℕ) (room room' : Bytes) (gaps gaps' : List ℕ) (written written' count count' : ℕ) : Type 0 where
  pub number : n ≡ rescue_number (rescue_answer f (length room) (length gaps))
  pub bytes : room' ≡ place_after (roomy f (length room) (length gaps)) (rescued_file f) room
  pub listed : gaps' ≡ place_after (roomy f (length room) (length gaps)) (gaps_of f) gaps
  pub its_size : written' ≡ written_to (rescue_answer f (length room) (length gaps)) written
  pub its_count : count' ≡ gaps_to (rescue_answer f (length room) (length gaps)) count
