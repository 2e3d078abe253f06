-- Right because a fresh state has the key and no other byte, and a refused begin hands back none.
-- Assumes nothing.
use mathlib.Core.Path.{◌∙◌}
use native.Mathlib.Nat.{le_of_eq}
use lib.Seq.{take_all}
use Rattle.signing_pieces.proofs.CodeLaws.{begin_refused, begin_done}
use Rattle.signing_pieces.proofs.begin.Goals as goal

pub returns-then-key-ne16 : goal.returns-then-key-ne16
returns-then-key-ne16 c =
    begin_refused c.args.key.now c.if-key-ne16.true c.ended.ensures c.step.ensures

pub returns : goal.returns
returns c =
    let key = c.args.key.now in
    let size = c.if-key-ne16.false in
    let own = c.bytes_at.ensures ∙ take_all 16 key (le_of_eq size) in
    begin_done key size own c.ended-2.ensures c.step-2.ensures
