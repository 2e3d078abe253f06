-- Right because the tests pass one after the other, in the order of the list (Sealing).
use mathlib.Core.Path.{refl, sym, ap, ◌∙◌}
use borrow.Author.Rules.{rules}
use borrow.Author.Tests.{eqb-true, eqb-false}
use Rattle.std.proofs.lemmas.Result.{err_from_is_err_and}
use Rattle.connection.specs.Reading.{connection_of}
use Rattle.answer.specs.Reading.{answer_of}
use Rattle.answer.proofs.Results.{applies, applies-not}
use Rattle.protocol.specs.Calls.{sent_by}
use Rattle.protocol.specs.Compound.{walk}
use Rattle.protocol.specs.TransformHeader.{inner}
use Rattle.transform.proofs.Inner.{sized}
use Rattle.transform.proofs.Sealing.{lines_refuse, lines-passed, walk-refuses, counter-refuses, counter-passes}
use Rattle.transform.proofs.seal_tests.Goals as goal

pub returns-in_err-lines_before : goal.returns-in_err-lines_before
returns-in_err-lines_before c =
    let a = c.args in
    let no = lines_refuse (connection_of a.c) a.key.now a.id a.counter a.message.now _ c.lines_before.ensures _ c.in_err-lines_before.was in
    search (rules, no)

pub walk_inner-requires : goal.walk_inner-requires
walk_inner-requires c =
    let a = c.args in
    sized (connection_of a.c) a.key.now a.message.now
    (lines-passed (connection_of a.c) a.key.now a.id a.counter a.message.now _ c.lines_before.ensures _ c.in_ok-lines_before.was)

pub returns-in_err-headers : goal.returns-in_err-headers
returns-in_err-headers c =
    let a = c.args in
    let first = lines-passed (connection_of a.c) a.key.now a.id a.counter a.message.now _ c.lines_before.ensures _ c.in_ok-lines_before.was in
    let sent = c.sent.ensures ∙ ap (λ r. sent_by r a.id) c.role.ensures in
    let walked = sym (ap answer_of c.in_err-headers.was) ∙ c.walk_inner.ensures ∙ ap (walk (inner a.message.now)) sent in
    let no = walk-refuses (connection_of a.c) a.key.now a.id a.counter a.message.now first _ walked refl in
    search (rules, no)

pub returns-in_err-refuse : goal.returns-in_err-refuse
returns-in_err-refuse c =
    let a = c.args in
    let first = lines-passed (connection_of a.c) a.key.now a.id a.counter a.message.now _ c.lines_before.ensures _ c.in_ok-lines_before.was in
    let sent = c.sent.ensures ∙ ap (λ r. sent_by r a.id) c.role.ensures in
    let walked = sym (ap answer_of c.in_ok-headers.was) ∙ c.walk_inner.ensures ∙ ap (walk (inner a.message.now)) sent in
    let told = applies _ _ _ c.refuse.ensures _ c.in_err-refuse.was in
    let last = eqb-true _ _ told.0 ∙ c.last_counter.ensures in
    let no = counter-refuses (connection_of a.c) a.key.now a.id a.counter a.message.now first _ walked refl last in
    let p = err_from_is_err_and c.from_residual-in_err-refuse.result c.from_residual-in_err-refuse.ensures.1 in
    rw (p.1, p.2, told.1) no

pub returns : goal.returns
returns c =
    let a = c.args in
    let first = lines-passed (connection_of a.c) a.key.now a.id a.counter a.message.now _ c.lines_before.ensures _ c.in_ok-lines_before.was in
    let sent = c.sent.ensures ∙ ap (λ r. sent_by r a.id) c.role.ensures in
    let walked = sym (ap answer_of c.in_ok-headers.was) ∙ c.walk_inner.ensures ∙ ap (walk (inner a.message.now)) sent in
    let below = eqb-false _ _ (applies-not _ _ _ c.refuse.ensures _ c.in_ok-refuse.was) in
    counter-passes (connection_of a.c) a.key.now a.id a.counter a.message.now first _ walked refl (λ e. below (e ∙ sym c.last_counter.ensures))
