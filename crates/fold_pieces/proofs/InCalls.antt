-- Of a state that stands for a message, the steps are what the calls answer and leave.
-- Assumes nothing.
use Rattle.fold_pieces.specs.Clauses.{InCalls}
use Rattle.fold_pieces.proofs.StateLaws.{begin_hands_on, piece_hands_on}
use Rattle.fold_pieces.proofs.FinishLaws.{finish_is}

pub in_calls : InCalls
in_calls = record { begins = begin_hands_on; takes-pieces = piece_hands_on; finishes = λ kind s u h v. finish_is s u h kind v }
