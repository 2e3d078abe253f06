-- Right because each turn adds what its piece adds (PieceLaws).
-- Assumes nothing.
use Rattle.std.proofs.Common.{◌-◌, length}
use Rattle.trace_format.specs.Format.{edition_of}
use Rattle.trace_rescue.proofs.PieceLaws.{Measuring}
use Rattle.trace_rescue.proofs.cut.Trace.measure.Given as goal

abbrev pub invariant-loop-p : goal.invariant-loop-p
invariant-loop-p l = Measuring (edition_of l.self.edition) l.self.file.now l.p l.kept l.gaps

abbrev pub decreases-loop-p : goal.decreases-loop-p
decreases-loop-p l = length l.self.file.now - l.p
