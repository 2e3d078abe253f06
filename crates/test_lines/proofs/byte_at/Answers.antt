-- Two bytes are left, or fewer (LineLaws).
-- Assumes nothing.
use Rattle.std.proofs.Common.{◌∙◌, arith}
use Rattle.test_lines.proofs.LineLaws.{first-at, first_past}
use Rattle.test_lines.proofs.byte_at.Goals as goal

pub returns-then-saturating_sub-lt2-clause-value : goal.returns-then-saturating_sub-lt2-clause-value
returns-then-saturating_sub-lt2-clause-value c = first_past c.args.line.now c.args.at (omega arith)

pub returns-clause-value : goal.returns-clause-value
returns-clause-value c = c.pair.ensures.value ∙ first-at c.args.line.now c.args.at (omega arith)
