-- Right because each way makes of the fields what the definition makes of them.
use Rattle.std.proofs.Common.{◌≡◌, ◌<◌, length, rules, arith}
use Rattle.sha_2.specs.Sha2.{block_size}
use Rattle.sha_2_running.specs.Code.{state}
use Rattle.sha_2_running.proofs.Sized.{within_at, beyond_at}
use Rattle.sha_2_running.proofs.Running.update.Goals as goal

pub returns-then-piece-room : goal.returns-then-piece-room
returns-then-piece-room g c =
    let a = c.args in
    within_at g.W.Word.family (state g.W.Word.value a.self) a.piece.now g.met.W.Algorithm.sizes.block _ c.if-piece-room.true c.copy.ensures

pub returns : goal.returns
returns g c =
    let a = c.args in
    let s = g.met.W.Algorithm.sizes in
    let size : length a.self.buffer ≡ g.row.BLOCK = search rules in
    let pos : 0 < block_size g.W.Word.family = omega (arith, s.some) in
    beyond_at g.W.Word.family (state g.W.Word.value a.self) a.piece.now s.block pos _ _ _ _ size c.if-piece-room.false c.copy-2.ensures
    c.hash_blocks-first.ensures c.hash_blocks.ensures c.copy-3.ensures
