-- Of a state that stands for a message, the steps are what the calls answer and leave.
-- Assumes nothing.
use Rattle.signing_pieces.specs.Clauses.{InCalls}
use Rattle.signing_pieces.proofs.StateLaws.{begin_hands_on, piece_hands_on, sign_returns, verify_returns}
use Rattle.signing_pieces.proofs.PieceLaws.{joined-stands}

pub in_calls : InCalls
in_calls =
    record {
      begins = begin_hands_on;
      takes-pieces = λ s u h p. piece_hands_on s u h p (λ b. joined-stands u b p s h);
      signs = sign_returns;
      verifies = verify_returns;
    }
