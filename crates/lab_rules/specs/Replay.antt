-- The replay of a whole trace: RULES 16.
-- Assumes nothing.
use Rattle.std.specs.Prelude.{cond, List, [], ◌∷◌, ◌++◌, ℕ, zero, suc, ◌+◌, ltb, length, take, drop}
use Rattle.octets.specs.Numbers.{bytes_at}
use Rattle.protocol.specs.Bytes.{Bytes}
use Rattle.trace_format.specs.Format.{Edition, edition_of, FileReading, file_head, bad_file_head, read_file_head, Reading, found, end, unreadable, read_at}
use Rattle.lab_rules.specs.Steps.{State, fresh_state, step_number, step_state, step_payload}

-- "The replay program holds 65,536 bytes"
abbrev pub held : ℕ
held = 65536

-- ---- one record

-- what comes out of it: "its answer number", ""long" for the number", the place where the replay stops, or nothing at the end
pub data Outcome : Type 0 where
  answered : ℕ → Outcome
  long : Outcome
  stopped : ℕ → Outcome
  ended : Outcome

-- of the reading at place p of the file f
abbrev pub outcome : Reading → State → Bytes → ℕ → Outcome
outcome (found k d q n next) s f p = cond (ltb held n) long (answered (step_number k d (bytes_at q n f) s))
outcome end s f p = ended
outcome unreadable s f p = stopped p

-- the lab afterwards: a long payload "changes no chain", and no table
abbrev pub state_after : Reading → State → Bytes → State
state_after (found k d q n next) s f = cond (ltb held n) s (step_state k d (bytes_at q n f) s)
state_after end s f = s
state_after unreadable s f = s

-- the lent file afterwards: a sealed message is opened in its place
abbrev pub file_after : Reading → State → Bytes → Bytes
file_after (found k d q n next) s f = cond (ltb held n) f (take q f ++ (step_payload k d (bytes_at q n f) s ++ drop next f))
file_after end s f = f
file_after unreadable s f = f

-- where the next record begins
abbrev pub place_after : Reading → ℕ → ℕ
place_after (found k d q n next) p = next
place_after end p = p
place_after unreadable p = p

-- ---- the lines of a whole file

pub data Line : Type 0 where
  -- "its index from 0, a space, its answer number"
  number : ℕ → ℕ → Line
  -- "a longer payload gets "long" for the number"
  long_line : ℕ → Line
  -- ""stop", a space, the byte place where that record begins"
  stop : ℕ → Line

-- "Each record gets one line"; "The replay stops at the first record that cannot be read"
abbrev pub line_then : Outcome → ℕ → List Line → List Line
line_then (answered n) i rest = number i n ∷ rest
line_then long i rest = long_line i ∷ rest
line_then (stopped p) i rest = stop p ∷ []
line_then ended i rest = []

-- from place p on, with the record's index i: at most n records
unfoldable pub lines_from : ℕ → Edition → State → Bytes → ℕ → ℕ → List Line
lines_from zero e s f p i = []
lines_from (suc n) e s f p i =
    let r = read_at e f p in line_then (outcome r s f p) i (lines_from n e (state_after r s f) f (place_after r p) (i + 1))

-- under the file head; "a bad file head (short, or another edition)" prints ""stop 0"". There are no more records than bytes
abbrev pub lines_under : FileReading → Bytes → List Line
lines_under (file_head e d c) f = lines_from (length f) (edition_of e) (fresh_state d c) f 4 0
lines_under bad_file_head f = stop 0 ∷ []

unfoldable pub lines_of : Bytes → List Line
lines_of f = lines_under (read_file_head f) f
