-- The format of a lab trace: RULES 16. "House format, bits most significant first."
-- Assumes nothing.
use Rattle.std.specs.Prelude.{Bool, cond, not, ◌&&◌, ◌||◌, List, ℕ, ◌+◌, ◌/◌, ◌%◌, leb, ltb, eqb, length, take, drop}
use Rattle.octets.specs.Numbers.{big_endian}

abbrev pub Bytes : Type 0
Bytes = List ℕ

-- "are unreadable: the reader answers 36", and so does the writer to what the reader would not read
abbrev pub unreadable_number : ℕ
unreadable_number = 36

-- ---- editions

-- what an edition fixes: the weight of the length's lowest bit, below which are the zero bits, and the longest payload
pub record Edition : Type 0 where
  pub unit : ℕ
  pub longest : ℕ

-- "edition 8 (value 1)": "length 21, zero 7", "Payloads have 1 to 1,048,628 bytes"
abbrev pub edition1 : Edition
edition1 = record { unit = 128; longest = 1048628 }

-- "edition 2 has length 24 and zero 4, payloads up to 8,454,196"
abbrev pub edition2 : Edition
edition2 = record { unit = 16; longest = 8454196 }

-- an edition that a reader does not know has no payload
abbrev pub no_edition : Edition
no_edition = record { unit = 1; longest = 0 }

-- what a reader knows: the edition of each number
abbrev pub Editions : Type 0
Editions = ℕ → Edition

-- "New readers read both editions"
abbrev pub edition_of : Editions
edition_of n = cond (eqb n 1) edition1 (cond (eqb n 2) edition2 no_edition)

-- "An edition 1 reader", as it was before edition 2
abbrev pub first_editions : Editions
first_editions n = cond (eqb n 1) edition1 no_edition

abbrev pub known_to : Editions → ℕ → Bool
known_to editions n = ltb 0 (editions n).longest

abbrev pub known : ℕ → Bool
known = known_to edition_of

-- ---- the file head, which is the first four bytes: "File head, 32 bits: edition 8 (value 1), dialect 16, cipher 8."

-- the number in the first four bytes
abbrev pub head_in : Bytes → ℕ
head_in s = big_endian (take 4 s)

abbrev pub edition_in : ℕ → ℕ
edition_in h = h / 16777216

abbrev pub dialect_in : ℕ → ℕ
dialect_in h = h / 256 % 65536

abbrev pub cipher_in : ℕ → ℕ
cipher_in h = h % 256

-- not "a bad file head (short, or another edition)"
unfoldable pub good_file_head : Editions → Bytes → Bool
good_file_head editions f = leb 4 (length f) && known_to editions (edition_in (head_in f))

pub data FileReading : Type 0 where
  -- edition, dialect, cipher
  file_head : ℕ → ℕ → ℕ → FileReading
  -- 36
  bad_file_head : FileReading

unfoldable pub read_file_head_by : Editions → Bytes → FileReading
read_file_head_by editions f =
    cond (good_file_head editions f) (file_head (edition_in (head_in f)) (dialect_in (head_in f)) (cipher_in (head_in f))) bad_file_head

abbrev pub read_file_head : Bytes → FileReading
read_file_head = read_file_head_by edition_of

-- ---- the record head: "Record head, 32 bits: kind 3, direction 1 (1 is from the server), length 21, zero 7; then the payload.", and in
-- edition 2 "length 24 and zero 4"

abbrev pub kind_in : ℕ → ℕ
kind_in h = h / 536870912

abbrev pub from_server_in : ℕ → Bool
from_server_in h = eqb (h / 268435456 % 2) 1

abbrev pub length_in : Edition → ℕ → ℕ
length_in e h = h % 268435456 / e.unit

-- "Kinds: 0 negotiate, 1 session setup, 2 sealed, 3 lab session". "Payloads have 1 to" the edition's longest, "kind 3 exactly 24; other
-- kinds, wrong lengths .. are unreadable". Of a kind and a payload's length
abbrev pub admitted : Edition → ℕ → ℕ → Bool
admitted e kind n = leb kind 3 && (leb 1 n && (leb n e.longest && (not (eqb kind 3) || eqb n 24)))

-- "non-zero spare bits and cut-off heads .. are unreadable". Of the bytes from the head on
unfoldable pub good_head : Edition → Bytes → Bool
good_head e s = leb 4 (length s) && (eqb (head_in s % e.unit) 0 && admitted e (kind_in (head_in s)) (length_in e (head_in s)))

-- the head by itself, from its four bytes
pub data HeadReading : Type 0 where
  -- kind, from the server, length of the payload
  head : ℕ → Bool → ℕ → HeadReading
  bad_head : HeadReading

unfoldable pub read_head : Edition → Bytes → HeadReading
read_head e s = cond (good_head e s) (head (kind_in (head_in s)) (from_server_in (head_in s)) (length_in e (head_in s))) bad_head

-- ---- a record

-- the bytes of the record that begins s
abbrev pub size_in : Edition → Bytes → ℕ
size_in e s = 4 + length_in e (head_in s)

-- "cut-off .. payloads are unreadable"
unfoldable pub readable : Edition → Bytes → Bool
readable e s = good_head e s && leb (size_in e s) (length s)

pub data Reading : Type 0 where
  -- kind, from the server, place and length of the payload, place of the next record
  found : ℕ → Bool → ℕ → ℕ → ℕ → Reading
  -- "No byte left is the end, not 36."
  end : Reading
  -- "unreadable: the reader answers 36"
  unreadable : Reading

-- the record at place p of the file f
unfoldable pub read_at : Edition → Bytes → ℕ → Reading
read_at e f p =
    let s = drop p f in
    cond (leb (length f) p) end
    (cond (readable e s) (found (kind_in (head_in s)) (from_server_in (head_in s)) (p + 4) (length_in e (head_in s)) (p + size_in e s)) unreadable)

-- "as to a bad file head": of a whole file, which begins with its head, the record at place p
abbrev pub after_head : Editions → FileReading → Bytes → ℕ → Reading
after_head editions (file_head e d c) f p = read_at (editions e) f p
after_head editions bad_file_head f p = unreadable

unfoldable pub read_in_by : Editions → Bytes → ℕ → Reading
read_in_by editions f p = after_head editions (read_file_head_by editions f) f p

abbrev pub read_in : Bytes → ℕ → Reading
read_in = read_in_by edition_of
