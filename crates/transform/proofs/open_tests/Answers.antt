-- Right because the lists are tested one after the other (Opening).
use mathlib.Core.Path.{◌≡◌}
use borrow.Author.Rules.{rules}
use Rattle.std.proofs.lemmas.Result.{IfOk-at_ok}
use Rattle.connection.specs.Reading.{connection_of}
use Rattle.protocol.specs.TransformHeader.{header_of}
use Rattle.transform_header.specs.Reading.{header_from}
use Rattle.answer.proofs.Results.{err_says, ok_says, test_says}
use Rattle.transform.proofs.Opening.{opens-as, opens-not, key_refuses, front_refuses, all_say}
use Rattle.transform.proofs.open_tests.Goals as goal

pub returns-in_err-key_tests : goal.returns-in_err-key_tests
returns-in_err-key_tests c =
    let a = c.args in
    let k = connection_of a.c in
    let no = opens-not k a.key.now a.id a.message.now _ (key_refuses k a.key.now a.id a.message.now _ c.key_tests.ensures _ c.in_err-key_tests.was) in
    search (rules, no)

pub returns-in_err-h : goal.returns-in_err-h
returns-in_err-h c =
    let a = c.args in
    let k = connection_of a.c in
    let says = front_refuses k a.key.now a.id a.message.now _ c.key_tests.ensures _ c.in_ok-key_tests.was _ c.opening_tests.ensures.number _ c.in_err-h.was in
    let no = opens-not k a.key.now a.id a.message.now _ says in
    search (rules, no)

pub returns-in_err-refuse : goal.returns-in_err-refuse
returns-in_err-refuse c =
    let a = c.args in
    let k = connection_of a.c in
    let m = a.message.now in
    let eh = IfOk-at_ok (λ h. header_from h ≡ header_of m) c.in_ok-h.was c.opening_tests.ensures.header in
    let all = all_say k a.key.now a.id m _ c.key_tests.ensures _ c.in_ok-key_tests.was _ c.opening_tests.ensures.number _ c.in_ok-h.was eh
    _ (test_says _ _ _ c.refuse.ensures) in
    let no = opens-not k a.key.now a.id m _ (err_says _ _ all _ c.in_err-refuse.was) in
    search (rules, no)

pub returns : goal.returns
returns c =
    let a = c.args in
    let k = connection_of a.c in
    let m = a.message.now in
    let eh = IfOk-at_ok (λ h. header_from h ≡ header_of m) c.in_ok-h.was c.opening_tests.ensures.header in
    let all = all_say k a.key.now a.id m _ c.key_tests.ensures _ c.in_ok-key_tests.was _ c.opening_tests.ensures.number _ c.in_ok-h.was eh
    _ (test_says _ _ _ c.refuse.ensures) in
    opens-as k a.key.now a.id m _ (ok_says _ _ all _ c.in_ok-refuse.was) eh
