-- Right because the bytes, the byte 128, zeros and the length fill one block, or two.
use Rattle.std.proofs.Common.{map, ◌<◌, arith}
use Rattle.sha_2.specs.Sha2.{block_size}
use Rattle.sha_2_running.proofs.Sized.{one_at, two_at}
use Rattle.sha_2_running.proofs.padding.last_blocks.Goals as goal

pub returns-then-part-length_at : goal.returns-then-part-length_at
returns-then-part-length_at g c =
    let s = g.met.W.Algorithm.sizes in
    let a = c.args in
    let pos : 0 < block_size g.W.Word.family = omega (arith, s.some) in
    one_at g.W.Word.family (map g.W.Word.value a.hs) a.part.now a.n s.few pos s.block _ _ _ _ c.requires c.if-part-length_at.true c.copy.ensures
    c.length_field-field.ensures c.copy-then-part-length_at.ensures c.hash_blocks.ensures

pub returns : goal.returns
returns g c =
    let s = g.met.W.Algorithm.sizes in
    let a = c.args in
    let pos : 0 < block_size g.W.Word.family = omega (arith, s.some) in
    two_at g.W.Word.family (map g.W.Word.value a.hs) a.part.now a.n s.few pos s.block _ _ _ _ _ c.requires c.if-part-length_at.false c.copy.ensures
    c.length_field-field.ensures c.hash_blocks-full.ensures c.copy-2.ensures c.hash_blocks-2.ensures
