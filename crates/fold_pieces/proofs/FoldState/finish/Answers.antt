-- Right because neither kind has a status that could keep it out.
-- Assumes nothing.
use mathlib.Core.Bool.{true}
use Rattle.fold_pieces.proofs.FinishLaws.{ended_by}
use Rattle.fold_pieces.proofs.FoldState.finish.Goals as goal

pub returns : goal.returns
returns c =
    let a = c.args in
    ended_by a.self true a.chain.now c.close.ensures c.finished.ensures
