-- Right because each turn stores the bytes of the next word.
use Rattle.std.proofs.Common.{map}
use Rattle.sha_2.proofs.Loops.{Digesting}
use Rattle.sha_2_running.proofs.padding.digest.Given as goal

abbrev pub invariant-loop-i : goal.invariant-loop-i
invariant-loop-i g l = Digesting g.W.Word.family (map g.W.Word.value l.hs) l.out l.i
