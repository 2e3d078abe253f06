-- What was read so far, and what is left of the word, are the word (LineLaws).
-- Assumes nothing.
use Rattle.std.proofs.Common.{arith}
use Rattle.test_lines.proofs.LineLaws.{reading_start, reading_turn, reading_full, reading_ended}
use Rattle.test_lines.proofs.bytes_at.Goals as goal

pub loop-n-init : goal.loop-n-init
loop-n-init c = reading_start _ _ _

pub returns-in_default : goal.returns-in_default
returns-in_default c = reading_ended c.loop-n.invariant (omega arith) c.in_default.ensures.value

pub loop-n-preserved : goal.loop-n-preserved
loop-n-preserved c = reading_turn c.loop-n.invariant (omega arith) c.in-Some.ensures.small c.in-Some.ensures.value

pub returns : goal.returns
returns c = reading_full c.loop-n.invariant (omega arith) (omega arith)
