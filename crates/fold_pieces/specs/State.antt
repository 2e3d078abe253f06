-- A state of the code, any bytes of which C may lend: what the calls make of it, by its own fields, and the message under way that it stands for.
-- Assumes nothing.
use Rattle.std.specs.Prelude.{◌≡◌, Bool, true, ◌&&◌, List, ◌++◌, ℕ, ◌+◌, ◌-◌, min, leb, length, take, replicate}
use Rattle.std.proofs.Math.Seq.{paste}
use Rattle.sha512.specs.Code.{Holds, nothing_taken, updated}
use Rattle.protocol.specs.Bytes.{Bytes}
use Rattle.protocol.specs.Connection.{longest_message}
use Rattle.protocol.specs.Preauth.{admits_length}
use Rattle.protocol.specs.Pieces.{Underway}
use Rattle.connection.specs.Reading.{flag}
use Rattle.fold_pieces.specs.declared.FoldState.{FoldState}
use Rattle.fold_pieces.specs.declared.FoldStep.{FoldStep}

-- ---- any state

-- whether a piece of n bytes is taken, and whether a finish is not 23
abbrev pub takes : FoldState → ℕ → Bool
takes s n = flag s.underway && leb (s.joined + n) longest_message

abbrev pub ends : FoldState → Bool
ends s = flag s.underway && admits_length s.joined

-- the first twelve of n joined bytes, with the piece p behind them
unfoldable pub head_with : List ℕ → ℕ → Bytes → List ℕ
head_with head n p = let front = take (12 - min n 12) p in paste head (min n 12) front (length front)

-- the state that a refused begin and a finish hand back
unfoldable pub no_message : FoldState
no_message = record { hash = nothing_taken; joined = 0; head = replicate 12 0; underway = 0; spare = replicate 3 0 }

-- that of a begin on the value v
unfoldable pub begun_on : Bytes → FoldState
begun_on v = record { hash = updated nothing_taken v; joined = 0; head = replicate 12 0; underway = 1; spare = replicate 3 0 }

-- and of a piece p that is taken
unfoldable pub joined_by : FoldState → Bytes → FoldState
joined_by s p =
    record {
      hash = updated s.hash p;
      joined = s.joined + length p;
      head = head_with s.head s.joined p;
      underway = s.underway;
      spare = s.spare;
    }

-- what a begin and a piece hand back, which fold nothing
abbrev pub step_with : FoldState → ℕ → FoldStep
step_with s n = record { state = s; number = n; folded = 0 }

-- ---- the states that calls make

-- the hash has taken in the value begun from and the joined bytes, of which the first twelve are kept
pub record Hashes (s : FoldState) (u : Underway) : Type 0 where
  pub hashed : Holds s.hash (u.start ++ u.joined)
  pub started : length u.start ≡ 64
  pub counted : s.joined ≡ length u.joined
  pub room : length s.head ≡ 12
  pub headed : take s.joined s.head ≡ take 12 u.joined

pub record StandsFor (s : FoldState) (u : Underway) : Type 0 where
  pub same_begun : flag s.underway ≡ u.begun
  pub hashes : u.begun ≡ true → Hashes s u
