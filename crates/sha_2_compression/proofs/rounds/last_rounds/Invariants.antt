-- Right because each two rounds take up where the two before left off.
use Rattle.std.proofs.Common.{◌≡◌, ◌+◌, ◌-◌, ◌*◌, map}
use Rattle.sha_2.specs.Sha2 as sha2
use Rattle.sha_2_compression.specs.Code.{of}
use Rattle.sha_2_compression.proofs.rounds.last_rounds.Given as goal

abbrev pub invariant-loop-i : goal.invariant-loop-i
invariant-loop-i g l =
    let p = g.W.Word.family in
    let ws = map g.W.Word.value l.w in
    (x : sha2.Working) → of g.W.Word.value l.initial.v ≡ sha2.rounds p ws p.further x
    → of g.W.Word.value l.v ≡ sha2.rounds p ws (g.row.ROUNDS - 16 + 2 * l.i) x
