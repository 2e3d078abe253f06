-- The bytes so far are the number so far (LineLaws).
-- Assumes nothing.
use Rattle.test_lines.proofs.LineLaws.{Counting}
use Rattle.test_lines.proofs.Words.number.Given as goal

abbrev pub invariant-loop-i : goal.invariant-loop-i
invariant-loop-i l = Counting l.b l.len l.n l.i
