-- Right because a wrong tag leaves the text alone, and a later refusal is followed by the key stream that restores it (Opening).
use mathlib.Core.Bool.{not}
use mathlib.Core.Path.{ap}
use mathlib.Core.Path.{sym, ◌∙◌}
use borrow.Author.Tests.{not-true, not-false}
use Rattle.answer.proofs.Results.{refused-is}
use Rattle.compound.specs.Reading.{envelope_of}
use Rattle.transform_header.specs.Reading.{header_from}
use Rattle.transform.proofs.Opening.{tag_wrong, restored, opened}
use Rattle.transform.proofs.body.open_body.Goals as goal

pub returns-then-not-open : goal.returns-then-not-open
returns-then-not-open c =
    let a = c.args in
    tag_wrong a.keyed.cipher a.keyed.key.now (header_from a.h) (envelope_of a.e) a.text.now _ _ c.«open».ensures
    (not-true _ (ap not c.if-not-open.true))

pub returns-then-is_err : goal.returns-then-is_err
returns-then-is_err c =
    let a = c.args in
    let h = header_from a.h in
    restored a.keyed.cipher a.keyed.key.now h (envelope_of a.e) a.text.now _ _ c.«open».ensures
    (not-false _ (ap not c.if-not-open.false))
    _ c.size_then_walk-out.ensures (refused-is _ ∙ sym c.is_err.ensures.value ∙ c.if-is_err.true) _
    (c.apply.ensures h.authenticated_data)

pub returns-else-is_err : goal.returns-else-is_err
returns-else-is_err c =
    let a = c.args in
    let h = header_from a.h in
    opened a.keyed.cipher a.keyed.key.now h (envelope_of a.e) a.text.now _ _ c.«open».ensures
    (not-false _ (ap not c.if-not-open.false)) _
    c.size_then_walk-out.ensures (refused-is _ ∙ sym c.is_err.ensures.value ∙ c.if-is_err.false)
