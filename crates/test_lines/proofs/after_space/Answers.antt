-- No space stands before the place that the loop has come to (LineLaws).
-- Assumes nothing.
use Rattle.std.proofs.Common.{◌∙◌}
use Rattle.test_lines.proofs.LineLaws.{behind-here, behind-later, behind-end, behind_most}
use Rattle.test_lines.proofs.after_space.Goals as goal

pub returns-then-line-i-eq32 : goal.returns-then-line-i-eq32
returns-then-line-i-eq32 c = behind-here 32 c.args.line.now c.loop-i.i c.loop-i-test.true c.if-line-i-eq32.true ∙ c.loop-i.invariant

pub loop-i-preserved : goal.loop-i-preserved
loop-i-preserved c = behind-later 32 c.args.line.now c.loop-i.i c.loop-i-test.true c.if-line-i-eq32.false ∙ c.loop-i.invariant

pub returns : goal.returns
returns c =
    let line = c.args.line.now in
    let e = behind-end 32 line c.loop-i.i c.loop-i-test.false ∙ c.loop-i.invariant in
    c.max.ensures ∙ behind_most 32 line c.args.at c.loop-i.i c.loop-i-test.false c.loop-i.auto.i-end e
