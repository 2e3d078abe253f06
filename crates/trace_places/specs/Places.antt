-- What a call from C answers, and what each place that it was lent holds afterwards, where it held h.
-- Assumes nothing.
use Rattle.std.specs.Prelude.{ℕ}
use Rattle.trace_format.specs.Format.{unreadable_number, FileReading, file_head, bad_file_head, Reading, found, end, unreadable}
use Rattle.trace_format.specs.Records.{bit}
use Rattle.trace_writer.specs.Answers.{Written, up_to, refused}

-- ---- of what was written

abbrev pub written_number : Written → ℕ
written_number (up_to n) = 0
written_number (refused n) = n

-- the place of the next record
abbrev pub place_behind : Written → ℕ → ℕ
place_behind (up_to n) h = n
place_behind (refused n) h = h

-- ---- of a file head that was read

abbrev pub file_number : FileReading → ℕ
file_number (file_head e d c) = 0
file_number bad_file_head = unreadable_number

abbrev pub edition_to : FileReading → ℕ → ℕ
edition_to (file_head e d c) h = e
edition_to bad_file_head h = h

abbrev pub dialect_to : FileReading → ℕ → ℕ
dialect_to (file_head e d c) h = d
dialect_to bad_file_head h = h

abbrev pub cipher_to : FileReading → ℕ → ℕ
cipher_to (file_head e d c) h = c
cipher_to bad_file_head h = h

-- ---- of a record that was read: at the end the length of the payload is 0, and no payload has that length

abbrev pub reading_number : Reading → ℕ
reading_number (found k d p n q) = 0
reading_number end = 0
reading_number unreadable = unreadable_number

abbrev pub kind_to : Reading → ℕ → ℕ
kind_to (found k d q n r) h = k
kind_to end h = h
kind_to unreadable h = h

abbrev pub from_server_to : Reading → ℕ → ℕ
from_server_to (found k d q n r) h = bit d
from_server_to end h = h
from_server_to unreadable h = h

abbrev pub payload_to : Reading → ℕ → ℕ
payload_to (found k d q n r) h = q
payload_to end h = h
payload_to unreadable h = h

abbrev pub length_to : Reading → ℕ → ℕ
length_to (found k d q n r) h = n
length_to end h = 0
length_to unreadable h = h

abbrev pub next_to : Reading → ℕ → ℕ
next_to (found k d q n r) h = r
next_to end h = h
next_to unreadable h = h
