-- What the functions promise of any state: every byte of what is handed back and left. And what that is of a state that stands for a message under
-- way, as calls make them: what its call answers and leaves.
-- Assumes nothing.
use Rattle.std.specs.Prelude.{◌≡◌, Bool, cond, List, [], ◌∷◌, eqb, length}
use Rattle.sha512.specs.Code.{finished}
use Rattle.protocol.specs.Bytes.{Bytes}
use Rattle.protocol.specs.Answer.{Answer, done, answer_number, carried, when_done, Test, judge}
use Rattle.protocol.specs.Preauth.{FoldKind, status_allows}
use Rattle.protocol.specs.Pieces.{Underway, not_begun}
use Rattle.protocol.specs.Refusals.{fold_length, bad_length}
use Rattle.protocol.specs.Calls.{Call, fold_beginning, fold_piece, fold_finishing, only_underway, chain_and_underway, answer, left}
use Rattle.protocol.specs.Suite.{suite}
use Rattle.answer.specs.Reading.{marked}
use Rattle.fold_pieces.specs.declared.FoldState.{FoldState}
use Rattle.fold_pieces.specs.declared.FoldStep.{FoldStep}
use Rattle.fold_pieces.specs.State.{StandsFor, no_message, begun_on, joined_by, step_with, takes, ends}

-- ---- any state

-- what a begin on the value v hands back
unfoldable pub begin_step : Bytes → FoldStep
begin_step v = cond (eqb (length v) 64) (step_with (begun_on v) 0) (step_with no_message 40)

-- what the piece p hands back
unfoldable pub piece_step : FoldState → Bytes → FoldStep
piece_step s p = cond (takes s (length p)) (step_with (joined_by s p) 0) (step_with s 23)

-- a finish into the value v, where the status allows it or not: what it tests and answers
abbrev pub end_lines : FoldState → Bytes → List Test
end_lines s v = bad_length (eqb (length v) 64) ∷ fold_length (ends s) ∷ []

abbrev pub end_answer : FoldState → Bool → Bytes → Answer
end_answer s allowed v = judge (end_lines s v) (done (cond allowed 1 0))

-- what it hands back: the state with no message, whatever it answers
abbrev pub ended_with : Answer → FoldStep
ended_with a = record { state = no_message; number = answer_number a; folded = marked a 0 }

unfoldable pub end_step : FoldState → Bool → Bytes → FoldStep
end_step s allowed v = ended_with (end_answer s allowed v)

-- and what it leaves of the value
unfoldable pub end_value : FoldState → Bool → Bytes → Bytes
end_value s allowed v = when_done (end_answer s allowed v) (λ n. cond allowed (finished s.hash) v) v

pub record Ends (s : FoldState) (allowed : Bool) (v : Bytes) (r : FoldStep) (v' : Bytes) : Type 0 where
  pub hands_back : r ≡ end_step s allowed v
  pub leaves : v' ≡ end_value s allowed v

-- ---- a state that stands for a message

-- the call c answers, and hands the state on; it has folded nothing
pub record HandsOn (c : Call) (u : Underway) (r : FoldStep) : Type 0 where
  pub number : r.number ≡ answer_number (answer suite c (only_underway u))
  pub mark : r.folded ≡ 0
  pub stands : StandsFor r.state (left suite c (only_underway u)).underway

-- a finish of the message u into the value v
pub record Finishes (kind : FoldKind) (u : Underway) (v : Bytes) (r : FoldStep) (v' : Bytes) : Type 0 where
  pub number : r.number ≡ answer_number (answer suite (fold_finishing kind) (chain_and_underway v u))
  pub mark : r.folded ≡ carried (answer suite (fold_finishing kind) (chain_and_underway v u)) 0
  pub leaves : chain_and_underway v' u ≡ left suite (fold_finishing kind) (chain_and_underway v u)

-- the steps above are what the calls answer and leave. The status is read from the kept bytes
pub record InCalls : Type 0 where
  pub begins : (v : Bytes) → HandsOn (fold_beginning v) not_begun (begin_step v)
  pub takes-pieces : (s : FoldState) (u : Underway) → StandsFor s u → (p : Bytes) → HandsOn (fold_piece p) u (piece_step s p)
  pub finishes : (kind : FoldKind) (s : FoldState) (u : Underway) → StandsFor s u → (v : Bytes)
      → let allowed : Bool = status_allows kind s.head in Finishes kind u v (end_step s allowed v) (end_value s allowed v)
