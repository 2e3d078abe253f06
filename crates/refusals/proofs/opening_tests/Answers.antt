-- Right because the two lists are tested one after the other, and what passes the first has a header (HeaderThere).
use mathlib.Core.Path.{ap, subst, ◌∙◌}
use borrow.Author.Rules.{rules}
use Rattle.std.specs.Prelude.{Some}
use Rattle.std.specs.Result.{result_ok}
use Rattle.connection.specs.Reading.{connection_of}
use Rattle.transform_header.specs.Reading.{ReadFrom}
use Rattle.answer.proofs.Results.{err_says}
use Rattle.refusals.proofs.HeaderThere.{message_refuses, header_says}
use Rattle.refusals.proofs.opening_tests.Goals as goal

pub returns-in_err-message_tests-clause-number : goal.returns-in_err-message_tests-clause-number
returns-in_err-message_tests-clause-number c =
    let a = c.args in
    let no = message_refuses (connection_of a.c) a.m.now _ c.message_tests.ensures _ c.in_err-message_tests.was in
    search (rules, no)

pub returns-in_err-header_tests-clause-number : goal.returns-in_err-header_tests-clause-number
returns-in_err-header_tests-clause-number c =
    let a = c.args in
    let m = a.m.now in
    let h : ReadFrom m (Some c.in_ok-h.h) = subst (ReadFrom m) (c.ok_or.ensures.ok_part ∙ ap result_ok c.in_ok-h.was) c.read_header.ensures in
    let says = err_says _ _ c.header_tests.ensures _ c.in_err-header_tests.was in
    let no = header_says (connection_of a.c) m _ c.message_tests.ensures _ c.in_ok-message_tests.was c.in_ok-h.h h.1 says in
    search (rules, no)
