-- Programs that call the writer or the reader again and again, over what each call promises (`crates/smb3seal/specs/Traces.antt`).
-- Assumes nothing.
use Rattle.std.specs.Prelude.{Bool, cond, not, ◌&&◌, List, [], ◌∷◌, ℕ, zero, suc, eqb, length, drop}
use Rattle.octets.specs.Numbers.{bytes_at}
use Rattle.trace_format.specs.Format.{Bytes, Edition, Reading, read_in}
use Rattle.trace_format.specs.Records.{Record, Contents, before, record_bytes, writable, head_writable, file_head_bytes}
use Rattle.trace_writer.specs.Answers.{write_answer, room_after}
use Rattle.trace_places.specs.Places.{written_number, place_behind, reading_number, kind_to, from_server_to, payload_to, length_to, next_to}

-- ---- the writer

-- the lent room, and the place of the next record
pub record Room : Type 0 where
  pub bytes : Bytes
  pub at : ℕ

-- what a call leaves that writes b, which is writable or not, at place p (`WritesTrace`), and whether it answers 0
abbrev pub room_left : Bool → Bytes → ℕ → Room → Room
room_left ok b p w = record { bytes = room_after ok b w.bytes p; at = place_behind (write_answer ok b (length w.bytes) p) w.at }

abbrev pub answers_zero : Bool → Bytes → ℕ → Room → Bool
answers_zero ok b p w = eqb (written_number (write_answer ok b (length w.bytes) p)) 0

abbrev pub write_head : ℕ → ℕ → ℕ → Room → Room
write_head edition dialect cipher w = room_left (head_writable edition cipher) (file_head_bytes edition dialect cipher) 0 w

abbrev pub write_next : Edition → Record → Room → Room
write_next e r w = room_left (writable e r) (record_bytes e r) w.at w

abbrev pub accepts : Edition → Record → Room → Bool
accepts e r w = answers_zero (writable e r) (record_bytes e r) w.at w

-- each call gets the room as the one before left it
unfoldable pub write_list : Edition → List Record → Room → Room
write_list e [] w = w
write_list e (r ∷ rs) w = write_list e rs (write_next e r w)

-- the records that were not refused
unfoldable pub accepted : Edition → List Record → Room → List Record
accepted e [] w = []
accepted e (r ∷ rs) w = cond (accepts e r w) (r ∷ accepted e rs (write_next e r w)) (accepted e rs (write_next e r w))

-- ---- the reader

-- the places that are lent to it
pub record Places : Type 0 where
  pub at : ℕ
  pub kind : ℕ
  pub from_server : ℕ
  pub payload : ℕ
  pub size : ℕ

-- what they hold after a call that read r (`ReadsRecord`)
abbrev pub places_after : Reading → Places → Places
places_after r l =
    record {
      at = next_to r l.at;
      kind = kind_to r l.kind;
      from_server = from_server_to r l.from_server;
      payload = payload_to r l.payload;
      size = length_to r l.size;
    }

-- the record of the trace f that they tell
abbrev pub record_at : Bytes → Places → Record
record_at f l = record { kind = l.kind; from_server = not (eqb l.from_server 0); payload = bytes_at l.payload l.size f }

-- what a program finds that calls on from place to place while the answer is 0 and the payload's length is not, and the bytes from its last
-- place on: at most n calls
unfoldable pub found_by : ℕ → Bytes → Places → Contents
found_by zero f l = record { records = []; rest = drop l.at f }
found_by (suc n) f l =
    let r = read_in f l.at in
    let after = places_after r l in
    cond (eqb (reading_number r) 0 && not (eqb after.size 0))
    (before (record_at f after) (found_by n f after))
    (record { records = []; rest = drop after.at f })
