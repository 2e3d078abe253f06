-- What was read so far, and what is left of the word, are the word (LineLaws).
-- Assumes nothing.
use Rattle.test_lines.proofs.LineLaws.{Reading}
use Rattle.test_lines.proofs.bytes_at.Given as goal

abbrev pub invariant-loop-n : goal.invariant-loop-n
invariant-loop-n l = Reading l.line l.at l.initial.out l.out l.n
