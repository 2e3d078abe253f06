-- Right because the kept bytes end with the status.
-- Assumes nothing.
use mathlib.Core.Path.{◌≡◌, ap, ◌∙◌}
use mathlib.Core.Bool.{Bool, ◌&&◌}
use native.Mathlib.Omega.{arith}
use borrow.Author.Tests.{le-leb}
use lib.ListN.{length}
use Rattle.protocol.specs.Preauth.{more_processing}
use Rattle.fold_pieces.proofs.FinishLaws.{ended_by}
use Rattle.fold_pieces.proofs.FoldState.finish_response.Goals as goal

pub returns : goal.returns
returns c =
    let s = c.args.self in
    let twelve = le-leb 12 (length s.head) (omega (arith, (let it : length c.args.self.head ≡ 12 = c.well_formed.0.1.1.1.1.0.1.0.1 in it))) in
    let allowed = c.asks_for_more-allowed.ensures ∙ ap (λ (b : Bool). b && more_processing s.head) twelve in
    let k = rw allowed at c.close.ensures in
    ended_by s _ c.args.chain.now k c.finished.ensures
