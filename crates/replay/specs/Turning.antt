-- What the turn of a record leaves: its line, the lab, the window and the place of the next record.
-- Assumes nothing.
use Rattle.std.specs.Prelude.{◌≡◌, Bool, true, false, not, [], ℕ, ◌-◌, take, drop}
use Rattle.trace_format.specs.Format.{Bytes, Edition, read_at}
use Rattle.lab_rules.specs.Steps.{State}
use Rattle.lab_rules.specs.Replay.{Outcome, answered, long, stopped, ended, outcome, state_after, place_after}
use Rattle.lab.specs.Reading.{Turns}
use Rattle.lab.specs.declared.Turn.{Turn}
use Rattle.program_text.specs.Lines.{two_numbers, long_line, stop_line}
use Rattle.program_text.specs.Puts.{PutLine}
use Rattle.trace_window.specs.Window.{behind}
use Rattle.trace_window.specs.declared.Cursor.{Cursor}
use Rattle.trace_window.specs.declared.Step.{Step}
use Rattle.trace_window.specs.declared.Step.TheVariants as steps

abbrev pub is_turn : Step → Bool
is_turn steps.Turn = true
is_turn steps.Read = false
is_turn (steps.Begin n) = false
is_turn steps.Passed = false
is_turn steps.CutOff = false

-- the line of the record of index i, at place p of the file
abbrev pub line_bytes : Outcome → ℕ → ℕ → Bytes
line_bytes (answered n) i p = two_numbers i n
line_bytes long i p = long_line i
line_bytes (stopped q) i p = stop_line p
line_bytes ended i p = []

-- "The replay stops at the first record that cannot be read"
abbrev pub goes_on : Outcome → Bool
goes_on (answered n) = true
goes_on long = true
goes_on (stopped q) = false
goes_on ended = false

-- the record at place p of the window's first n bytes
pub record TurnsIn (e : Edition) (s : State) (n p : ℕ) (w w' : Bytes) (t : Turn) : Type 0 where
  pub turns : Turns (read_at e (take n w) p) s (take n w) (take n w') p t
  pub rest : drop n w' ≡ drop n w

-- the record at hand, by the cursor
module _ (e : Edition) (s : State) (c : Cursor) (w : Bytes) where
  abbrev pub file : Bytes
  file = take c.have w

  abbrev pub found : Outcome
  found = outcome (read_at e file c.at) s file c.at

  abbrev pub next : ℕ
  next = place_after (read_at e file c.at) c.at

-- a primed name is the value afterwards
pub record TurnsTo (e : Edition) (s : State) (c : Cursor) (w text : Bytes) (used : ℕ) (s' : State) (c' : Cursor) (w' text' : Bytes) (used' : ℕ) (over : Bool) : Type 0 where
  pub lab : s' ≡ state_after (read_at e (file e s c w) c.at) s (file e s c w)
  pub line : PutLine (line_bytes (found e s c w) c.index c.place) text used used' text'
  pub cursor : c' ≡ behind (next e s c w - c.at) (next e s c w) c
  pub its_end : over ≡ not (goes_on (found e s c w))
  pub rest : drop c.have w' ≡ drop c.have w
