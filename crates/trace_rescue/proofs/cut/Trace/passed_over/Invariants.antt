-- Right because each turn passes one byte that `passed` passes (CutLaws).
-- Assumes nothing.
use Rattle.trace_format.specs.Format.{edition_of}
use Rattle.trace_rescue.proofs.CutLaws.{Seeking}
use Rattle.trace_rescue.proofs.cut.Trace.passed_over.Given as goal

abbrev pub invariant-loop-p : goal.invariant-loop-p
invariant-loop-p l = Seeking (edition_of l.self.edition) l.self.file.now l.from l.p
