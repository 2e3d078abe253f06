-- Records, read from bytes and written as bytes: RULES 16.
-- Assumes nothing.
use Rattle.std.specs.Prelude.{Bool, true, false, cond, ◌&&◌, List, [], ◌∷◌, ◌++◌, ℕ, zero, suc, ◌+◌, ◌*◌, ltb, eqb, length, take, drop}
use Rattle.octets.specs.Numbers.{to_big_endian}
use Rattle.trace_format.specs.Format.{Bytes, Edition, known, head_in, kind_in, from_server_in, length_in, size_in, readable, admitted}

pub record Record : Type 0 where
  pub kind : ℕ
  pub from_server : Bool
  pub payload : Bytes

-- ---- reading

-- the record that begins s
unfoldable pub record_in : Edition → Bytes → Record
record_in e s = record { kind = kind_in (head_in s); from_server = from_server_in (head_in s); payload = take (length_in e (head_in s)) (drop 4 s) }

-- "The replay stops at the first record that cannot be read": the records before it, and the bytes from there on. Nothing left is the end
pub record Contents : Type 0 where
  pub records : List Record
  pub rest : Bytes

abbrev pub before : Record → Contents → Contents
before r c = record { records = r ∷ c.records; rest = c.rest }

-- the first n records of s, or all of them
unfoldable pub read_some : ℕ → Edition → Bytes → Contents
read_some zero e s = record { records = []; rest = s }
read_some (suc n) e s = cond (readable e s) (before (record_in e s) (read_some n e (drop (size_in e s) s))) (record { records = []; rest = s })

-- a record has more than one byte, so there are no more of them than bytes
abbrev pub read_all : Edition → Bytes → Contents
read_all e s = read_some (length s) e s

-- ---- writing

-- "a new writer writes edition 2 only"
abbrev pub written_edition : ℕ
written_edition = 2

-- the direction's bit
abbrev pub bit : Bool → ℕ
bit true = 1
bit false = 0

-- the head of a record: its kind, from the server, the length of its payload
unfoldable pub record_head : Edition → ℕ → Bool → ℕ → Bytes
record_head e kind from_server n = to_big_endian 4 (kind * 536870912 + bit from_server * 268435456 + n * e.unit)

abbrev pub record_bytes : Edition → Record → Bytes
record_bytes e r = record_head e r.kind r.from_server (length r.payload) ++ r.payload

abbrev pub writable : Edition → Record → Bool
writable e r = admitted e r.kind (length r.payload)

-- the records, one after the other
unfoldable pub records_bytes : Edition → List Record → Bytes
records_bytes e [] = []
records_bytes e (r ∷ rs) = record_bytes e r ++ records_bytes e rs

abbrev pub all_writable : Edition → List Record → Bool
all_writable e [] = true
all_writable e (r ∷ rs) = writable e r && all_writable e rs

-- a file head that the reader would read: of a known edition, and with a cipher that its eight bits hold
abbrev pub head_readable : ℕ → ℕ → Bool
head_readable edition cipher = known edition && ltb cipher 256

-- "and answers 36 to an edition 1 head"
abbrev pub head_writable : ℕ → ℕ → Bool
head_writable edition cipher = eqb edition written_edition && head_readable edition cipher

-- "File head, 32 bits: edition 8, dialect 16, cipher 8"
unfoldable pub file_head_bytes : ℕ → ℕ → ℕ → Bytes
file_head_bytes edition dialect cipher = to_big_endian 4 (edition * 16777216 + dialect * 256 + cipher)
