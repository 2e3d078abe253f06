-- What the reader and the writer of a trace are to each other: RULES 16.
-- Assumes nothing.
use Rattle.std.specs.Prelude.{◌≡◌, true, false, List, [], ◌∷◌, ◌++◌, ℕ, ◌+◌, ◌<◌, ◌≤◌, length, take, drop}
use Rattle.trace_format.specs.Format.{Bytes, edition_of, first_editions, known, head_in, edition_in, file_head, bad_file_head, read_file_head_by, read_file_head, good_head}
use Rattle.trace_format.specs.Format.{size_in}
use Rattle.trace_format.specs.Format.{readable, unreadable, read_in_by, read_in}
use Rattle.trace_format.specs.Records.{Record, record_in, read_all, record_bytes, writable, records_bytes, all_writable, head_readable, head_writable, file_head_bytes}
use Rattle.trace_format.specs.Records.{written_edition}
use Rattle.trace_theorems.specs.Calls.{Room, write_head, write_list, accepted, Places, found_by}

-- all are bytes
pub data Octets : Bytes → Type 0 where
  none : Octets []
  more : {x : ℕ} {xs : Bytes} → x < 256 → Octets xs → Octets (x ∷ xs)

-- a file of these records
abbrev pub file_of : ℕ → ℕ → ℕ → List Record → Bytes
file_of n d c rs = file_head_bytes n d c ++ records_bytes (edition_of n) rs

-- "The writer answers 36 exactly to a file head or record that the reader would not read": by the contracts of the code it writes what is
-- writable where the room holds it. That is exactly what the reader reads back, whatever stands behind it
pub record WritesWhatIsRead : Type 0 where
  pub record_read : (n : ℕ) (r : Record) (rest : Bytes) → let e = edition_of n in let s = record_bytes e r ++ rest in
      writable e r ≡ true → (readable e s ≡ true) × (record_in e s ≡ r)
  pub record_written : (n : ℕ) (r : Record) (rest : Bytes) → let e = edition_of n in let s = record_bytes e r ++ rest in
      readable e s ≡ true → record_in e s ≡ r → writable e r ≡ true
  pub head_read : (n d c : ℕ) (rest : Bytes) → n < 256 → d < 65536 → head_readable n c ≡ true → read_file_head (file_head_bytes n d c ++ rest) ≡ file_head n d c
  pub head-written : (n d c : ℕ) (rest : Bytes) → read_file_head (file_head_bytes n d c ++ rest) ≡ file_head n d c → head_readable n c ≡ true

-- "Writing then reading gives the same records"
pub record WritingThenReading : Type 0 where
  -- every list of calls of the writer, refused ones included, into any room from any place on: the reader finds the records that were not
  -- refused, and nothing else
  pub calls_read : (n : ℕ) (rs : List Record) (w : Room) → w.at ≤ length w.bytes → let e = edition_of n in let after = write_list e rs w in
      read_all e (drop w.at (take after.at after.bytes)) ≡ record { records = accepted e rs w; rest = [] }
  -- every file of records that the writer of its edition accepts
  pub file_read : (n d c : ℕ) (rs : List Record) → n < 256 → d < 65536 → head_readable n c ≡ true → all_writable (edition_of n) rs ≡ true
      → (read_file_head (file_of n d c rs) ≡ file_head n d c) × (read_all (edition_of n) (drop 4 (file_of n d c rs)) ≡ record { records = rs; rest = [] })
  -- and of any bytes, in the layout of each edition: what was read, written again, and what is left are those bytes, and all of it is writable.
  -- The writer has edition 2 alone
  pub written-again : (n : ℕ) (s : Bytes) → Octets s → let c = read_all (edition_of n) s in
      (records_bytes (edition_of n) c.records ++ c.rest ≡ s) × (all_writable (edition_of n) c.records ≡ true)

-- what the calls of the reader find of a trace f, with anything in the places that are lent to them, is what `read_all` has. As many calls as
-- bytes are enough
pub record ReadingByCalls : Type 0 where
  -- from any place on
  pub found_all : (f : Bytes) (e d c n : ℕ) (l : Places) → read_file_head f ≡ file_head e d c → length f ≤ l.at + n
      → found_by n f l ≡ read_all (edition_of e) (drop l.at f)
  -- under a bad file head nothing
  pub found_none : (f : Bytes) (n : ℕ) (l : Places) → read_file_head f ≡ bad_file_head → found_by n f l ≡ record { records = []; rest = drop l.at f }
  -- "Writing then reading gives the same records", by calls alone: a file head and any list of records, refused ones included, into any room
  -- that holds the head; then from the first record on up to where was written
  pub written-found : (d c n : ℕ) (rs : List Record) (w : Room) (l : Places) → d < 65536 → c < 256 → 4 ≤ length w.bytes → length w.bytes ≤ 4 + n
      → l.at ≡ 4 → let e = edition_of written_edition in let headed = write_head written_edition d c w in let after = write_list e rs headed in
      found_by n (take after.at after.bytes) l ≡ record { records = accepted e rs headed; rest = [] }

-- a reader that gets a file in pieces
pub record ReadingApart : Type 0 where
  -- a file of another edition is refused by its edition byte
  pub other_edition : (f : Bytes) → known (edition_in (head_in f)) ≡ false → read_file_head f ≡ bad_file_head
  -- of the bytes s from a record on, the first m are enough: four, and those of the record where its head is good
  pub front-enough : (n m : ℕ) (s : Bytes) → let e = edition_of n in 4 ≤ m → (good_head e s ≡ true → size_in e s ≤ m)
      → (readable e (take m s) ≡ readable e s) × (readable e s ≡ true → record_in e (take m s) ≡ record_in e s)

-- two editions
pub record TwoEditions : Type 0 where
  -- "New readers read both editions": whatever the edition 1 reader reads, at every place of the file
  pub first_read : (f : Bytes) (e d c : ℕ) → read_file_head_by first_editions f ≡ file_head e d c
      → (read_file_head f ≡ file_head e d c) × ((p : ℕ) → read_in f p ≡ read_in_by first_editions f p)
  -- "a new writer writes edition 2 only, and answers 36 to an edition 1 head"
  pub one_written : (n c : ℕ) → head_writable n c ≡ true → n ≡ 2
  -- "An edition 1 reader must refuse an edition 2 file by its edition byte and show no record"
  pub first-refuses : (f : Bytes) → edition_in (head_in f) ≡ 2
      → (read_file_head_by first_editions f ≡ bad_file_head) × ((p : ℕ) → read_in_by first_editions f p ≡ unreadable)

pub record Traces : Type 0 where
  pub writes_what_is_read : WritesWhatIsRead
  pub writing_then_reading : WritingThenReading
  pub reading_by_calls : ReadingByCalls
  pub reading_apart : ReadingApart
  pub two_editions : TwoEditions
