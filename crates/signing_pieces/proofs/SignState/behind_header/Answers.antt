-- Right because the code takes the piece in under the key of the state.
-- Assumes nothing.
use Rattle.signing_pieces.proofs.CodeLaws.{behind_is}
use Rattle.signing_pieces.proofs.SignState.behind_header.Goals as goal

pub returns : goal.returns
returns c =
    let a = c.args in
    behind_is a.self a.piece.now c.cipher.ensures c.update.ensures
