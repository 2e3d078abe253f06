-- Right because each return stands under the tests of `is_found` (CutLaws).
-- Assumes nothing.
use Rattle.trace_format.specs.Format.{edition_of}
use Rattle.trace_rescue.proofs.CutLaws.{not_found, found_by_mark, not_by_kind}
use Rattle.trace_rescue.proofs.cut.Trace.is_found.Goals as goal

pub returns-in_default : goal.returns-in_default
returns-in_default c = let t = c.args.self.now in not_found (edition_of t.edition) t.file.now c.args.at c.in_default.ensures

pub returns-then-may_begin : goal.returns-then-may_begin
returns-then-may_begin c =
    let t = c.args.self.now in
    found_by_mark (edition_of t.edition) t.file.now c.args.at _ c.in-Some.ensures _ c.begins_message.ensures c.if-may_begin.true

pub returns-else-may_begin : goal.returns-else-may_begin
returns-else-may_begin c = let t = c.args.self.now in not_by_kind (edition_of t.edition) t.file.now c.args.at _ c.in-Some.ensures c.if-may_begin.false
