-- Right because each turn takes in the next block, and what is left at the end is less than one.
use Rattle.std.proofs.Common.{◌≡◌, map}
use Rattle.sha_2.proofs.Loops.{Taking}
use Rattle.sha_2_compression.proofs.hash_blocks.Given as goal

abbrev pub invariant-loop-block : goal.invariant-loop-block
invariant-loop-block g l =
    let value = g.W.Word.value in
    Taking g.W.Word.family (map value l.initial.h) l.m (map value l.h) l.block-iterator.rest.now
    × (l.block-iterator.size ≡ g.row.BLOCK)
