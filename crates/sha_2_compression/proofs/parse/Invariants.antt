-- Right because each turn stores the next word of the block.
use Rattle.std.proofs.Common.{map}
use Rattle.sha_2.proofs.Loops.{Parsing}
use Rattle.sha_2_compression.proofs.parse.Given as goal

abbrev pub invariant-loop-i : goal.invariant-loop-i
invariant-loop-i g l = Parsing g.W.Word.family l.block (map g.W.Word.value l.w) l.i
