-- Right because each turn adds what its piece adds (PieceLaws).
-- Assumes nothing.
use Rattle.std.proofs.Common.{true, false, refl}
use Rattle.trace_format.specs.Format.{edition_of}
use Rattle.trace_rescue.proofs.PieceLaws.{measure_ends, measure_kept, measure_dropped}
use Rattle.trace_rescue.proofs.cut.Trace.measure.Goals as goal

pub loop-p-preserved-in-Record : goal.loop-p-preserved-in-Record
loop-p-preserved-in-Record c =
    let t = c.args.self.now in
    let l = c.loop-p in
    measure_kept (edition_of t.edition) t.file.now l.p l.kept l.gaps l.invariant c.loop-p-test.true true _ c.in-Record.ensures refl

pub loop-p-preserved : goal.loop-p-preserved
loop-p-preserved c =
    let t = c.args.self.now in
    let l = c.loop-p in
    measure_dropped (edition_of t.edition) t.file.now l.p l.kept l.gaps l.invariant c.loop-p-test.true false _ c.in-Gap.ensures refl

pub returns : goal.returns
returns c =
    let t = c.args.self.now in
    let l = c.loop-p in
    measure_ends (edition_of t.edition) t.file.now l.p l.kept l.gaps l.invariant c.loop-p-test.false
