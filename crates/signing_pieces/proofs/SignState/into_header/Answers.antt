-- Right because the first bytes go where the header ends, and once it is whole the code takes it in with the rest behind.
-- Assumes nothing.
use mathlib.Core.Path.{sym}
use Prim.Native.Nat.{◌-◌}
use native.Mathlib.Omega.{arith}
use lib.Seq.{length-take-le}
use Rattle.octets.proofs.Paste.{part_all}
use Rattle.signing_pieces.proofs.CodeLaws.{into_short, into_whole}
use Rattle.signing_pieces.proofs.SignState.into_header.Goals as goal

pub returns-then-piece-room : goal.returns-then-piece-room
returns-then-piece-room c =
    let a = c.args in
    into_short a.self a.piece.now c.if-piece-room.true c.filled.ensures

pub slice_bounds-filled-end : goal.slice_bounds-filled-end
slice_bounds-filled-end c =
    sym (length-take-le _ c.args.piece.now (omega (arith, c.if-piece-room.false)))

pub filled-whole-requires : goal.filled-whole-requires
filled-whole-requires c =
    let l = length-take-le (64 - c.args.self.length) c.args.piece.now (omega (arith, c.if-piece-room.false)) in
    omega (arith, c.requires.0)

pub overflow_add-length : goal.overflow_add-length
overflow_add-length c =
    omega (arith, c.requires.1)

pub returns : goal.returns
returns c =
    let cipher = c.cipher-cipher in
    let a = c.args in
    let piece = a.piece.now in
    let cut = 64 - a.self.length in
    into_whole a.self piece c.if-piece-room.false c.filled-whole.ensures cipher.ensures c.covered.ensures
    (part_all piece cut) c.new.ensures c.update-code.ensures c.update.ensures
