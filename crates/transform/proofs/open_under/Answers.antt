-- Right because the lines before the tag refuse and leave the message alone, or pass (Opening).
use mathlib.Core.Path.{ap, ◌∙◌}
use borrow.Author.Rules.{rules}
use Rattle.connection.specs.Reading.{connection_of}
use Rattle.protocol.specs.Calls.{sent_by}
use Rattle.protocol.specs.Connection.{other}
use Rattle.protocol.proofs.First.{key_length}
use Rattle.transform.proofs.Inner.{sized}
use Rattle.transform.proofs.Opening.{lines_refuse, lines-passed, header_is, message-opens}
use Rattle.transform.proofs.open_under.Goals as goal

pub returns-in_err-h : goal.returns-in_err-h
returns-in_err-h c =
    let a = c.args in
    let no = lines_refuse (connection_of a.c) a.key.now a.id a.message.now _ c.open_tests.ensures _ c.in_err-h.was in
    search (rules, no)

pub invariant_of-keyed : goal.invariant_of-keyed
invariant_of-keyed c =
    let a = c.args in
    let first = lines-passed (connection_of a.c) a.key.now a.id a.message.now _ c.open_tests.ensures _ c.in_ok-h.was in
    record { sized = key_length (connection_of a.c) a.key.now a.message.now first }

pub open_message-requires : goal.open_message-requires
open_message-requires c =
    let a = c.args in (
      header_is (connection_of a.c) a.key.now a.id a.message.now _ c.open_tests.ensures _ c.in_ok-h.was,
      sized (connection_of a.c) a.key.now a.message.now
          (lines-passed (connection_of a.c) a.key.now a.id a.message.now _ c.open_tests.ensures _ c.in_ok-h.was),
    )

pub returns : goal.returns
returns c =
    let a = c.args in
    let received = c.received.ensures ∙ ap (λ r. sent_by (other r) a.id) c.role.ensures in
    message-opens (connection_of a.c) a.key.now a.id a.message.now _ c.open_tests.ensures _ c.in_ok-h.was _ _ _ _ c.cipher_used.ensures
    received c.open_message.ensures
