-- Right because what of the piece is among the first twelve bytes is copied behind those that are there.
-- Assumes nothing.
use mathlib.Core.Path.{◌≡◌, sym}
use native.Mathlib.Omega.{arith}
use lib.ListN.{length}
use lib.Seq.{length-take-le}
use Rattle.fold_pieces.proofs.HeadLaws.{head_is}
use Rattle.fold_pieces.proofs.head_with.Goals as goal

pub slice_bounds-copy-end-2 : goal.slice_bounds-copy-end-2
slice_bounds-copy-end-2 c =
    let n = c.min-n in
    sym (length-take-le n.result c.args.piece.now (omega (arith, n.ensures)))

pub copy-requires : goal.copy-requires
copy-requires c =
    let n = c.min-n in
    let at = c.min-at in
    let l = length-take-le n.result c.args.piece.now (omega (arith, n.ensures)) in
    omega (arith, (let it : length c.args.head ≡ 12 = c.well_formed.0.1.0.1 in it), l, n.ensures, at.ensures)

pub returns : goal.returns
returns c =
    let n = c.min-n in
    let at = c.min-at in
    let a = c.args in
    head_is a.head a.piece.now a.joined at.ensures n.ensures c.copy.ensures
