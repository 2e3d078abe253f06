-- Right because one piece is the whole text.
-- Assumes nothing.
use mathlib.Core.List.{[]}
use Rattle.hmac.proofs.hmac.Goals as goal

pub returns : goal.returns
returns c =
    let a = c.args in
    c.finish.ensures a.key.now a.text.now (c.update.ensures _ [] c.new.ensures)
