-- Right because before each turn the array holds the schedule as far as it is computed, and v the rounds so far.
use Rattle.std.proofs.Common.{◌*◌, map}
use Rattle.sha_2.proofs.Loops.{First}
use Rattle.sha_2_compression.specs.Code.{of}
use Rattle.sha_2_compression.proofs.rounds.first_rounds.Given as goal

abbrev pub invariant-loop-i : goal.invariant-loop-i
invariant-loop-i g l =
    let value = g.W.Word.value in
    First g.W.Word.family (map value l.initial.w) g.W.Word.family.constants (of value l.initial.v) (map value l.w) (of value l.v) (8 * l.i)
