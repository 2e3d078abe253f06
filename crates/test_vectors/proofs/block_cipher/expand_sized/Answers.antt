-- A key of either size has its number of rounds.
use Rattle.std.proofs.Common.{◌<◌, arith}
use Rattle.aes.proofs.KeySizeLaws.{below_fifteen}
use Rattle.test_vectors.proofs.block_cipher.expand_sized.Goals as goal

pub offset_bounds-keys-r : goal.offset_bounds-keys-r
offset_bounds-keys-r c =
    let q : c.rounds-r-end.result < 15 = rw c.rounds-r-end.ensures (below_fifteen _ c.requires) in
    omega arith

pub bounds-keys-r : goal.bounds-keys-r
bounds-keys-r c =
    let q : c.rounds-r-end.result < 15 = rw c.rounds-r-end.ensures (below_fifteen _ c.requires) in
    omega arith
