-- What the code leaves in a lent text.
-- Assumes nothing.
use Rattle.std.specs.Prelude.{◌≡◌, Bool, cond, ◌&&◌, List, ℕ, ◌+◌, ◌*◌, ◌-◌, leb, length}
use Rattle.std.proofs.Math.Seq.{paste}
use Rattle.program_text.specs.Lines.{Bytes, gap_lines}
use Rattle.program_text.specs.Words.{folder_in, beside}

-- b stands at a place of the text, and r is the place behind it
pub record Put (b text : Bytes) (at r : ℕ) (text' : Bytes) : Type 0 where
  pub place : r ≡ at + length b
  pub bytes : text' ≡ paste text at b (length b)

-- room for any line: two numbers of twenty digits, a space and the line's end
abbrev pub roomy : Bytes → ℕ → Bool
roomy text at = leb (at + 42) (length text)

-- the same where something has to hold, and nothing where it does not
pub record PutIf (ok : Bool) (b text : Bytes) (at r : ℕ) (text' : Bytes) : Type 0 where
  pub place : r ≡ cond ok (at + length b) at
  pub bytes : text' ≡ cond ok (paste text at b (length b)) text

abbrev pub PutLine : Bytes → Bytes → ℕ → ℕ → Bytes → Type 0
PutLine line text at r text' = PutIf (roomy text at) line text at r text'

-- there are so many gaps in the list, and room for a line for each
abbrev pub gaps_fit : ℕ → ℕ → ℕ → Bool
gaps_fit text list gaps = leb (42 * gaps) text && leb (2 * gaps) list

abbrev pub PutGaps : ℕ → List ℕ → Bytes → ℕ → Bytes → Type 0
PutGaps gaps list text r text' = PutIf (gaps_fit (length text) (length list) gaps) (gap_lines gaps list) text 0 r text'

-- the same behind what a text has at a place: at its start it is `PutGaps`
abbrev pub PutGapsAt : ℕ → List ℕ → Bytes → ℕ → ℕ → Bytes → Type 0
PutGapsAt gaps list text at r text' = PutIf (gaps_fit (length text - at) (length list) gaps) (gap_lines gaps list) text at r text'

-- the name, or the whole room where it does not hold the name: no path is as long
pub record PutName (path room : Bytes) (r : ℕ) (room' : Bytes) : Type 0 where
  pub place : r ≡ cond (leb (folder_in path + 15) (length room)) (length (beside path)) (length room)
  pub bytes : room' ≡ cond (leb (folder_in path + 15) (length room)) (paste room 0 (beside path) (length (beside path))) room
