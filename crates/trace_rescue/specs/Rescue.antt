-- A damaged trace: what is kept of it, and what is dropped. RULES 17.
-- Assumes nothing.
use Rattle.std.specs.Prelude.{Bool, cond, ◌&&◌, ◌||◌, List, [], ◌∷◌, ◌++◌, ℕ, zero, suc, ◌+◌, ◌*◌, leb, length, take, drop}
use Rattle.octets.specs.Same.{same_bytes}
use Rattle.trace_format.specs.Format.{Bytes, unreadable_number, Edition, edition_of, head_in, edition_in, good_file_head, kind_in, length_in, size_in, readable}

-- ---- where the reader takes up again

-- "payload begins FE 53 4D 42 or FD 53 4D 42"
abbrev pub begins_message : Bytes → Bool
begins_message p = same_bytes (take 4 p) (0xFE ∷ 0x53 ∷ 0x4D ∷ 0x42 ∷ []) || same_bytes (take 4 p) (0xFD ∷ 0x53 ∷ 0x4D ∷ 0x42 ∷ [])

-- "readable record of kind 0, 1 or 2 whose payload begins FE 53 4D 42 or FD 53 4D 42". Of the bytes from the record on
unfoldable pub is_found : Edition → Bytes → Bool
is_found e s = readable e s && (leb (kind_in (head_in s)) 2 && begins_message (take (length_in e (head_in s)) (drop 4 s)))

-- "looks at each following byte offset for the earliest": how many bytes of s stand before it; all, where there is none
unfoldable pub passed : Edition → Bytes → ℕ
passed e [] = 0
passed e (x ∷ xs) = cond (is_found e (x ∷ xs)) 0 (passed e xs + 1)

-- ---- the bytes after the file head, in pieces

pub data Piece : Type 0 where
  -- a good record
  kept : Bytes → Piece
  -- a gap: from an unreadable record on
  dropped : Bytes → Piece

-- how long the piece is that begins s: a record, or "after an unreadable record" what is passed, from the byte behind its first on
unfoldable pub piece_length : Edition → Bytes → ℕ
piece_length e s = cond (readable e s) (size_in e s) (passed e (drop 1 s) + 1)

abbrev pub piece_in : Edition → Bytes → Piece
piece_in e s = cond (readable e s) (kept (take (piece_length e s) s)) (dropped (take (piece_length e s) s))

-- the first n pieces, or all of them
unfoldable pub pieces_some : ℕ → Edition → Bytes → List Piece
pieces_some zero e s = []
pieces_some (suc n) e [] = []
pieces_some (suc n) e (x ∷ xs) = piece_in e (x ∷ xs) ∷ pieces_some n e (drop (piece_length e (x ∷ xs)) (x ∷ xs))

-- a piece has a byte, so there are no more of them than bytes
abbrev pub pieces : Edition → Bytes → List Piece
pieces e s = pieces_some (length s) e s

-- ---- what is written

unfoldable pub kept_bytes : List Piece → Bytes
kept_bytes [] = []
kept_bytes (kept b ∷ ps) = b ++ kept_bytes ps
kept_bytes (dropped b ∷ ps) = kept_bytes ps

-- "for each gap .. first byte's place in the input, .. length dropped": two numbers for each, where the first piece begins at place p
unfoldable pub gap_numbers : ℕ → List Piece → List ℕ
gap_numbers p [] = []
gap_numbers p (kept b ∷ ps) = gap_numbers (p + length b) ps
gap_numbers p (dropped b ∷ ps) = p ∷ length b ∷ gap_numbers (p + length b) ps

unfoldable pub gap_count : List Piece → ℕ
gap_count [] = 0
gap_count (kept b ∷ ps) = gap_count ps
gap_count (dropped b ∷ ps) = gap_count ps + 1

-- of a file of edition n
abbrev pub pieces_in : ℕ → Bytes → List Piece
pieces_in n f = pieces (edition_of n) (drop 4 f)

abbrev pub pieces_of : Bytes → List Piece
pieces_of f = pieces_in (edition_in (head_in f)) f

-- "The file head is copied, so the edition stays"
abbrev pub rescued_file : Bytes → Bytes
rescued_file f = take 4 f ++ kept_bytes (pieces_of f)

abbrev pub gaps_of : Bytes → List ℕ
gaps_of f = gap_numbers 4 (pieces_of f)

-- "answers 36 and writes nothing where lent room is too small", and to an unreadable file head: room for n bytes, and for m numbers
abbrev pub roomy : Bytes → ℕ → ℕ → Bool
roomy f n m = good_file_head edition_of f && (leb (length (rescued_file f)) n && leb (2 * gap_count (pieces_of f)) m)

pub data Rescued : Type 0 where
  -- bytes written, and gaps listed
  done : ℕ → ℕ → Rescued
  refused : ℕ → Rescued

abbrev pub rescue_answer : Bytes → ℕ → ℕ → Rescued
rescue_answer f n m = cond (roomy f n m) (done (length (rescued_file f)) (gap_count (pieces_of f))) (refused unreadable_number)

-- ---- as numbers and lent places, for C

abbrev pub rescue_number : Rescued → ℕ
rescue_number (done n k) = 0
rescue_number (refused n) = n

-- what each place holds afterwards, where it held h: the bytes that were written, and the gaps that were listed
abbrev pub written_to : Rescued → ℕ → ℕ
written_to (done n k) h = n
written_to (refused n) h = h

abbrev pub gaps_to : Rescued → ℕ → ℕ
gaps_to (done n k) h = k
gaps_to (refused n) h = h
