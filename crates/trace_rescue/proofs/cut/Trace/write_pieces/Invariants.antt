-- Right because after each turn what is left to write, written now, gives what is due (PieceLaws).
-- Assumes nothing.
use Rattle.std.proofs.Common.{◌-◌, length}
use Rattle.trace_format.specs.Format.{edition_of}
use Rattle.trace_rescue.proofs.PieceLaws.{Placing}
use Rattle.trace_rescue.proofs.cut.Trace.write_pieces.Given as goal

abbrev pub invariant-loop-p : goal.invariant-loop-p
invariant-loop-p l = Placing (edition_of l.self.edition) l.self.file.now l.initial.room l.initial.list l.p l.w l.k l.room l.list

abbrev pub decreases-loop-p : goal.decreases-loop-p
decreases-loop-p l = length l.self.file.now - l.p
