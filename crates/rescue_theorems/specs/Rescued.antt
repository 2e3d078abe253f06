-- What is kept of a damaged trace, and what is dropped: RULES 17.
-- Assumes nothing.
use Rattle.std.specs.Prelude.{◌≡◌, true, false, List, [], ◌∷◌, ◌++◌, ℕ, ◌+◌, ◌*◌, ◌/◌, ◌<◌, ◌≤◌, length, drop}
use Rattle.trace_format.specs.Format.{Bytes, Edition, edition_of, head_in, edition_in, good_file_head, read_file_head, readable}
use Rattle.trace_format.specs.Records.{Record, record_in, read_all}
use Rattle.trace_theorems.specs.Calls.{Places, found_by}
use Rattle.trace_rescue.specs.Rescue.{is_found, passed, Piece, kept, dropped, piece_length, pieces, kept_bytes, gap_count, rescued_file, gaps_of, roomy}

-- the bytes of the pieces, one after the other
abbrev pub bytes_of : Piece → Bytes
bytes_of (kept b) = b
bytes_of (dropped b) = b

unfoldable pub joined : List Piece → Bytes
joined [] = []
joined (p ∷ ps) = bytes_of p ++ joined ps

-- the good records, in order
unfoldable pub kept_records : Edition → List Piece → List Record
kept_records e [] = []
kept_records e (kept b ∷ ps) = record_in e b ∷ kept_records e ps
kept_records e (dropped b ∷ ps) = kept_records e ps

-- k bytes stand before the earliest place of s where the reader takes up again, or there is none and they are all
pub record Earliest (e : Edition) (s : Bytes) (k : ℕ) : Type 0 where
  pub inside : k ≤ length s
  pub none_before : (j : ℕ) → j < k → is_found e (drop j s) ≡ false
  pub there : k < length s → is_found e (drop k s) ≡ true

-- of the bytes s behind a file head
pub record Pieces : Type 0 where
  -- "Kept and dropped bytes together are exactly the input after the file head, each byte once."
  pub each_once : (e : Edition) (s : Bytes) → joined (pieces e s) ≡ s
  -- "looks at each following byte offset for the earliest"
  pub earliest : (e : Edition) (s : Bytes) → Earliest e s (passed e s)
  -- a gap ends where the reader takes up again, or with the file: no gap follows a gap
  pub gap_ends : (e : Edition) (s : Bytes) → readable e s ≡ false → 0 < length s → piece_length e s < length s
      → is_found e (drop (piece_length e s) s) ≡ true
  -- what comes out reads whole: the good records, and nothing is left
  pub comes_out : (e : Edition) (s : Bytes) → read_all e (kept_bytes (pieces e s)) ≡ record { records = kept_records e (pieces e s); rest = [] }
  -- at most one gap for nine bytes, and one more
  pub few_gaps : (e : Edition) (s : Bytes) → 9 * gap_count (pieces e s) ≤ length s + 8

-- of a file f
pub record Files : Type 0 where
  -- "The file head is copied, so the edition stays"
  pub head_stays : (f : Bytes) → good_file_head edition_of f ≡ true → read_file_head (rescued_file f) ≡ read_file_head f
  -- "a clean file comes out unchanged with no gap listed": one of which nothing is left when its records are read
  pub clean : (f : Bytes) → (read_all (edition_of (edition_in (head_in f))) (drop 4 f)).rest ≡ [] → (rescued_file f ≡ f) × (gaps_of f ≡ [])
  -- what the calls of the reader find in what comes out, from the first record on: the good records, and nothing is left
  pub found-whole : (f : Bytes) (n : ℕ) (l : Places) → good_file_head edition_of f ≡ true → l.at ≡ 4 → length (rescued_file f) ≤ 4 + n
      → let e = edition_of (edition_in (head_in f)) in found_by n (rescued_file f) l ≡ record { records = kept_records e (pieces e (drop 4 f)); rest = [] }
  -- so a second rescue changes nothing
  pub again : (f : Bytes) → good_file_head edition_of f ≡ true → (rescued_file (rescued_file f) ≡ rescued_file f) × (gaps_of (rescued_file f) ≡ [])
  -- room for as many bytes as there are, and for two numbers for each nine of them and two more, is always enough
  pub enough-room : (f : Bytes) (n m : ℕ) → good_file_head edition_of f ≡ true → length f ≤ n → 2 * (length f / 9 + 1) ≤ m → roomy f n m ≡ true

pub record Rescue : Type 0 where
  pub its_pieces : Pieces
  pub its_files : Files
