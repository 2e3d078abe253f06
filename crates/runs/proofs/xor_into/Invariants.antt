-- Right because each turn stores the next byte of the xored string, and the byte that it reads is still as lent (paste_next).
-- Assumes nothing.
use Rattle.std.proofs.Common.{◌≡◌, length}
use Rattle.std.proofs.Math.Seq.{paste}
use Rattle.octets.specs.Xor.{xor}
use Rattle.runs.proofs.xor_into.Given as goal

abbrev pub invariant-loop-i : goal.invariant-loop-i
invariant-loop-i l = (l.text ≡ paste l.initial.text 0 (xor l.initial.text l.stream) l.i) × (length l.text ≡ length l.initial.text)
