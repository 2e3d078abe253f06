-- Right because nothing is written before the last test, and the counter moves with the message (Sealing).
use mathlib.Core.Path.{refl, sym, ap, ◌∙◌}
use native.Mathlib.Omega.{arith}
use borrow.Author.Rules.{rules}
use Rattle.connection.specs.Reading.{connection_of}
use Rattle.answer.specs.Reading.{answer_of}
use Rattle.protocol.specs.Calls.{sealing_under, message_and_counter}
use Rattle.protocol.proofs.CallLaws.{makes_refused}
use Rattle.protocol.proofs.First.{key_length}
use Rattle.transform.proofs.Inner.{sized}
use Rattle.transform.proofs.Sealing.{tests-passed, not_last, seals}
use Rattle.transform.proofs.seal_under.Goals as goal

pub returns-in_err-headers : goal.returns-in_err-headers
returns-in_err-headers c =
    let a = c.args in
    let says = sym (ap answer_of c.in_err-headers.was) ∙ c.seal_tests.ensures in
    let no = makes_refused (sealing_under (connection_of a.c) a.key.now a.id) (message_and_counter a.message.now a.counter.now) _ says refl in
    search (rules, no)

pub invariant_of-keyed : goal.invariant_of-keyed
invariant_of-keyed c =
    let a = c.args in
    let says = sym (ap answer_of c.in_ok-headers.was) ∙ c.seal_tests.ensures in
    let first = tests-passed (connection_of a.c) a.key.now a.id a.counter.now a.message.now _ says refl in
    record { sized = key_length (connection_of a.c) a.key.now a.message.now first }

pub seal_message-requires : goal.seal_message-requires
seal_message-requires c =
    let a = c.args in
    let says = sym (ap answer_of c.in_ok-headers.was) ∙ c.seal_tests.ensures in
    sized (connection_of a.c) a.key.now a.message.now (tests-passed (connection_of a.c) a.key.now a.id a.counter.now a.message.now _ says refl)

pub overflow_add-counter : goal.overflow_add-counter
overflow_add-counter c =
    let a = c.args in
    let says = sym (ap answer_of c.in_ok-headers.was) ∙ c.seal_tests.ensures in
    let up = not_last (connection_of a.c) a.key.now a.id a.counter.now a.message.now _ says refl in
    omega arith

pub returns : goal.returns
returns c =
    let a = c.args in
    let says = sym (ap answer_of c.in_ok-headers.was) ∙ c.seal_tests.ensures in
    seals (connection_of a.c) a.key.now a.id a.counter.now a.message.now _ says refl _ _ c.cipher_used.ensures c.seal_message.ensures
