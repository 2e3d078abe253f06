-- Right because the three runs fill the 52 bytes, and nothing behind them is written (header-written).
-- Assumes nothing.
use Rattle.transform.proofs.Sealing.{header-written}
use borrow.Author.Rules.{rules}
use Rattle.transform.proofs.body.write_header.Goals as goal

pub returns : goal.returns
returns c =
    let a = c.args in
    let copy = c.copy in
    let copy2 = c.copy-2 in
    let copy3 = c.copy-3 in
    header-written a.m.now a.tag a.aad _ _ _ (search rules) (search rules) copy.ensures copy2.ensures copy3.ensures
