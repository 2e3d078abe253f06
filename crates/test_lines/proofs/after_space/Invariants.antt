-- No space stands before the place that the loop has come to.
-- Assumes nothing.
use Rattle.std.proofs.Common.{◌≡◌, ◌+◌, drop}
use Rattle.test_lines.specs.Lines as lines
use Rattle.test_lines.proofs.after_space.Given as goal

abbrev pub invariant-loop-i : goal.invariant-loop-i
invariant-loop-i l = l.i + lines.behind 32 (drop l.i l.line) ≡ l.at + lines.behind 32 (drop l.at l.line)
