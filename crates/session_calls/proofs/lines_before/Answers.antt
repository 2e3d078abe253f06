-- Right because the two lists are tested one after the other.
use mathlib.Core.Path.{refl, sym, ◌∙◌}
use borrow.Author.Rules.{rules}
use Rattle.connection.specs.Reading.{connection_of}
use Rattle.protocol.specs.Calls.{message_tests, record_tests}
use Rattle.session_record.specs.Reading.{session_of}
use Rattle.answer.proofs.Results.{stays, goes_on}
use Rattle.session_calls.proofs.lines_before.Goals as goal

pub returns-in_err-message_tests : goal.returns-in_err-message_tests
returns-in_err-message_tests c =
    let a = c.args in
    let k = connection_of a.c in
    let no = stays (message_tests k a.message.now) (record_tests k (session_of a.s.now)) _ c.message_tests.ensures _ c.in_err-message_tests.was in
    search (rules, no)

pub returns : goal.returns
returns c =
    let a = c.args in
    let k = connection_of a.c in
    c.record_tests.ensures
    ∙ sym (goes_on (message_tests k a.message.now) (record_tests k (session_of a.s.now)) _ c.message_tests.ensures _ refl c.in_ok-message_tests.was)
