-- Right because each return stands under the tests of `read_head` (FormatLaws).
-- Assumes nothing.
use Rattle.std.proofs.Common.{sym, ◌∙◌}
use Rattle.std.proofs.lemmas.Result.{err_from_is_err_and}
use Rattle.trace_format.specs.Format.{edition_of}
use Rattle.trace_format.proofs.FormatLaws.{head-unknown, head-short, head_spare, head_bad, head-good}
use Rattle.trace_reader.proofs.read_head.Goals as goal

pub returns-then-b-lt4 : goal.returns-then-b-lt4
returns-then-b-lt4 c = head-short (edition_of c.args.edition) c.args.b.now c.if-b-lt4.true

pub returns-in_err-layout : goal.returns-in_err-layout
returns-in_err-layout c =
    let p = err_from_is_err_and c.from_residual.result c.from_residual.ensures.1 in
    rw p.1 (head-unknown c.args.edition c.args.b.now (sym c.layout_of.ensures.there ∙ sym c.in_err-layout.ensures.variant))

pub returns-then-spare-ne0 : goal.returns-then-spare-ne0
returns-then-spare-ne0 c =
    let its = rw c.in_ok-layout.ensures.ok_part at c.layout_of.ensures.is in
    head_spare (edition_of c.args.edition) c.args.b.now c.if-b-lt4.false _ c.number_at-h.ensures.value _ its.unit c.if-spare-ne0.true

pub returns-then-not-admits : goal.returns-then-not-admits
returns-then-not-admits c =
    let its = rw c.in_ok-layout.ensures.ok_part at c.layout_of.ensures.is in
    head_bad (edition_of c.args.edition) c.args.b.now c.if-b-lt4.false _ c.number_at-h.ensures.value _ its.unit _ (c.admits.ensures _ its) c.if-not-admits.true

pub returns : goal.returns
returns c =
    let its = rw c.in_ok-layout.ensures.ok_part at c.layout_of.ensures.is in
    head-good (edition_of c.args.edition) c.args.b.now c.if-b-lt4.false _ c.number_at-h.ensures.value _ its.unit _ (c.admits.ensures _ its) c.if-spare-ne0.false
    c.if-not-admits.false
