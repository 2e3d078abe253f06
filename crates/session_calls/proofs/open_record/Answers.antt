-- Right because the lines are tested one after the other, and what passes is opened under the record's key (Opening).
-- Assumes nothing.
use mathlib.Core.Path.{◌≡◌, sym, ap, ◌∙◌}
use lib.ListN.{length}
use borrow.Author.Rules.{rules}
use Rattle.std.proofs.lemmas.Result.{IfOk-at_ok}
use Rattle.connection.specs.Reading.{connection_of}
use Rattle.protocol.specs.SessionTable.{opening_key}
use Rattle.protocol.specs.TransformHeader.{session_id_of}
use Rattle.session_record.specs.Reading.{session_of}
use Rattle.session_calls.proofs.Opening.{open_refused, open_done}
use Rattle.session_calls.proofs.open_record.Goals as goal

pub returns-in_err-id : goal.returns-in_err-id
returns-in_err-id c =
    let a = c.args in
    let no = open_refused (connection_of a.c) (session_of a.s.now) a.message.now _ c.open_tests.ensures.number _ c.in_err-id.was in
    search (rules, no)

pub returns : goal.returns
returns c =
    let a = c.args in
    let s = session_of a.s.now in
    let named = IfOk-at_ok (λ id. id ≡ session_id_of a.message.now) c.in_ok-id.was c.open_tests.ensures.named in
    let key = c.opening_key.ensures.key ∙ ap (λ r. opening_key r s.keys) c.role.ensures in
    open_done (connection_of a.c) s a.message.now _ c.open_tests.ensures.number _ c.in_ok-id.was named _ key
    (sym (ap length key) ∙ c.opening_key.ensures.size) _ _ c.open_under.ensures
