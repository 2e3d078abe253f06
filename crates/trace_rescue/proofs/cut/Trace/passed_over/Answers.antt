-- Right because each turn passes one byte that `passed` passes (CutLaws).
-- Assumes nothing.
use Rattle.trace_format.specs.Format.{edition_of}
use Rattle.trace_rescue.proofs.CutLaws.{seek_end, seek_found, seek_on}
use Rattle.trace_rescue.proofs.cut.Trace.passed_over.Goals as goal

pub returns-then-is_found : goal.returns-then-is_found
returns-then-is_found c =
    let t = c.args.self.now in
    seek_found (edition_of t.edition) t.file.now c.args.from c.loop-p.p c.loop-p.invariant _ c.loop-p-test.true c.is_found.ensures c.if-is_found.true

pub loop-p-preserved : goal.loop-p-preserved
loop-p-preserved c =
    let t = c.args.self.now in
    seek_on (edition_of t.edition) t.file.now c.args.from c.loop-p.p c.loop-p.invariant _ c.loop-p-test.true c.is_found.ensures c.if-is_found.false

pub returns : goal.returns
returns c = let t = c.args.self.now in seek_end (edition_of t.edition) t.file.now c.args.from c.loop-p.p c.loop-p.invariant c.loop-p-test.false
