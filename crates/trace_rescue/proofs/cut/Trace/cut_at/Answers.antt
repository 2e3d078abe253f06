-- Right because a piece is a record or a gap (PieceLaws).
-- Assumes nothing.
use Rattle.std.proofs.Common.{◌+◌, drop, arith}
use Rattle.std.proofs.lemmas.List.{length-drop}
use Rattle.trace_format.specs.Format.{edition_of}
use Rattle.trace_rescue.proofs.PieceLaws.{cut_record, cut_gap, passed-inside}
use Rattle.trace_rescue.proofs.cut.Trace.cut_at.Goals as goal

pub overflow_add-result : goal.overflow_add-result
overflow_add-result c =
    let t = c.args.self.now in
    let i = passed-inside (edition_of t.edition) (drop (c.args.at + 1) t.file.now) in
    let l = length-drop (c.args.at + 1) t.file.now in
    omega arith

pub returns-in-Some : goal.returns-in-Some
returns-in-Some c =
    let t = c.args.self.now in
    let to = c.in-Some.ensures.to in
    cut_record (edition_of t.edition) t.file.now c.args.at c.requires _ c.in-Some.ensures.can_be_read (omega arith)

pub returns-in-None : goal.returns-in-None
returns-in-None c =
    let t = c.args.self.now in
    cut_gap (edition_of t.edition) t.file.now c.args.at c.requires _ c.in-None.ensures c.passed_over.ensures
