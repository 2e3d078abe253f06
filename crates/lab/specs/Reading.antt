-- The enum and the struct of the code, read as the outcomes of the rules, and what a turn promises.
-- Assumes nothing.
use Rattle.std.specs.Prelude.{◌≡◌, ℕ}
use Rattle.protocol.specs.Bytes.{Bytes}
use Rattle.trace_format.specs.Format.{Reading}
use Rattle.lab_rules.specs.Steps.{State}
use Rattle.lab_rules.specs.Replay.{Outcome, answered, long, stopped, ended, outcome, state_after, file_after, place_after}
use Rattle.lab_state.specs.Reading.{state_of}
use Rattle.lab.specs.declared.Line.{Line}
use Rattle.lab.specs.declared.Line.TheVariants.{Number, Long, Stop, End}
use Rattle.lab.specs.declared.Turn.{Turn}

abbrev pub outcome_of : Line → Outcome
outcome_of (Number n) = answered n
outcome_of Long = long
outcome_of (Stop p) = stopped p
outcome_of End = ended

-- what the record at place p of the lent file f leaves, by the reading r there; f' is the file afterwards
pub record Turns (r : Reading) (s : State) (f f' : Bytes) (p : ℕ) (t : Turn) : Type 0 where
  pub line : outcome_of t.line ≡ outcome r s f p
  pub lab : state_of t.lab ≡ state_after r s f
  pub place : t.next ≡ place_after r p
  pub file : f' ≡ file_after r s f
