-- Right because the two lists are tested one after the other.
use mathlib.Core.Path.{refl, sym, ◌∙◌}
use mathlib.Core.List.{◌++◌}
use borrow.Author.Rules.{rules}
use Rattle.connection.specs.Reading.{connection_of}
use Rattle.protocol.specs.TransformHeader.{header_of}
use Rattle.protocol.specs.Calls.{message_tests, header_tests, record_tests}
use Rattle.session_record.specs.Reading.{session_of}
use Rattle.answer.proofs.Results.{stays, goes_on, err_says, ok_says}
use Rattle.session_calls.proofs.open_tests.Goals as goal

pub returns-in_err-h-clause-number : goal.returns-in_err-h-clause-number
returns-in_err-h-clause-number c =
    let a = c.args in
    let k = connection_of a.c in
    let m = a.message.now in
    let no = stays (message_tests k m ++ header_tests k (header_of m)) (record_tests k (session_of a.s.now)) _ c.opening_tests.ensures.number _
    c.in_err-h.was in
    search (rules, no)

pub returns-in_err-record_tests-clause-number : goal.returns-in_err-record_tests-clause-number
returns-in_err-record_tests-clause-number c =
    let a = c.args in
    let k = connection_of a.c in
    let m = a.message.now in
    let behind = goes_on (message_tests k m ++ header_tests k (header_of m)) (record_tests k (session_of a.s.now)) _ c.opening_tests.ensures.number _ refl
    c.in_ok-h.was in
    let no = err_says _ _ c.record_tests.ensures _ c.in_err-record_tests.was ∙ sym behind in
    search (rules, no)

pub returns-clause-number : goal.returns-clause-number
returns-clause-number c =
    let a = c.args in
    let k = connection_of a.c in
    let m = a.message.now in
    let behind = goes_on (message_tests k m ++ header_tests k (header_of m)) (record_tests k (session_of a.s.now)) _ c.opening_tests.ensures.number _ refl
    c.in_ok-h.was in
    ok_says _ _ c.record_tests.ensures _ c.in_ok-record_tests.was ∙ sym behind
