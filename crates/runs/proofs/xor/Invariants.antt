-- Right because each turn stores the next byte of the xored string, and the byte that it reads is still x's (paste_next).
-- Assumes nothing.
use Rattle.std.proofs.Common.{◌≡◌, length}
use Rattle.std.proofs.Math.Seq.{paste}
use Rattle.octets.specs.Xor.{xor}
use Rattle.runs.proofs.xor.Given as goal

abbrev pub invariant-loop-i : goal.invariant-loop-i
invariant-loop-i g l = (l.r ≡ paste l.initial.r 0 (xor l.initial.r l.y) l.i) × (length l.r ≡ length l.initial.r)
