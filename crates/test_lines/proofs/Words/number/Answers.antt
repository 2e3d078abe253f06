-- The bytes so far are the number so far (LineLaws).
-- Assumes nothing.
use Rattle.std.proofs.Common.{arith}
use Rattle.test_lines.proofs.LineLaws.{reads_fit, counting_start, counting_turn}
use Rattle.test_lines.proofs.Words.number.Goals as goal

pub loop-i-init : goal.loop-i-init
loop-i-init c = counting_start _ _ (omega (arith, reads_fit c.read-len.ensures.reads, c.read-len.auto.out))

pub loop-i-preserved : goal.loop-i-preserved
loop-i-preserved c = counting_turn c.loop-i.invariant c.loop-i-test.true c.shifted-n.ensures
