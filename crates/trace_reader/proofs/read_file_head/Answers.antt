-- Right because each return stands under the tests of `read_file_head` (FormatLaws).
-- Assumes nothing.
use Rattle.std.proofs.Common.{sym, ◌∙◌, arith}
use Rattle.trace_format.proofs.FormatLaws.{file-short, file_unknown, file-good}
use Rattle.trace_reader.proofs.read_file_head.Goals as goal

pub returns-then-b-lt4 : goal.returns-then-b-lt4
returns-then-b-lt4 c = file-short c.args.b.now c.if-b-lt4.true

pub returns-then-unknown : goal.returns-then-unknown
returns-then-unknown c = file_unknown c.args.b.now (omega arith) _ c.number_at-h.ensures.value (sym c.layout_of.ensures.there ∙ c.if-unknown.ensures)

pub returns : goal.returns
returns c = file-good c.args.b.now (omega arith) _ c.number_at-h.ensures.value (sym c.layout_of.ensures.there ∙ c.if-unknown.ensures)
