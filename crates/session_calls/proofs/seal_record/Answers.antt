-- Right because the lines are tested one after the other, and what passes is sealed under the record's key (Sealing).
-- Assumes nothing.
use mathlib.Core.Path.{sym, ap, ◌∙◌}
use lib.ListN.{length}
use borrow.Author.Rules.{rules}
use Rattle.connection.specs.Reading.{connection_of}
use Rattle.protocol.specs.SessionTable.{sealing_key}
use Rattle.session_record.specs.Reading.{session_of}
use Rattle.session_calls.proofs.Sealing.{seal_refused, seal_done}
use Rattle.session_calls.proofs.seal_record.Goals as goal

pub returns-in_err-lines_before : goal.returns-in_err-lines_before
returns-in_err-lines_before c =
    let a = c.args in
    let no = seal_refused (connection_of a.c) (session_of a.s.now) a.id a.message.now _ c.lines_before.ensures _ c.in_err-lines_before.was in
    search (rules, no)

pub returns : goal.returns
returns c =
    let a = c.args in
    let s = session_of a.s.now in
    let key = c.sealing_key.ensures.key ∙ ap (λ r. sealing_key r s.keys) c.role.ensures in
    seal_done (connection_of a.c) s a.id a.message.now _ c.lines_before.ensures _ c.in_ok-lines_before.was _ key
    (sym (ap length key) ∙ c.sealing_key.ensures.size) _ _ _ c.seal_under.ensures
