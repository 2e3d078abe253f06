-- A piece is never longer than what is left, nor than the buffer.
use Rattle.std.proofs.Common.{◌≤◌}
use Rattle.test_vectors.proofs.hashes.by_pieces.Given as goal

abbrev pub invariant-loop-n : goal.invariant-loop-n
invariant-loop-n g l = (l.n ≤ l.left) × (l.n ≤ 997)

abbrev pub decreases-loop-n : goal.decreases-loop-n
decreases-loop-n g l = l.left
