-- Right because a refusal comes before a byte is written, and else the flag is set, and the signature of that message stored.
-- Assumes nothing.
use mathlib.Core.Path.{refl}
use native.Mathlib.Omega.{arith}
use borrow.Author.Rules.{rules}
use Rattle.answer.proofs.Results.{refusal_number, err_says, ok_says}
use Rattle.signing.proofs.SigningLaws.{passed, left_alone, signed}
use Rattle.signing.proofs.sign.Goals as goal

pub returns-in_err-sign_tests : goal.returns-in_err-sign_tests
returns-in_err-sign_tests c =
    let a = c.args in
    let says = err_says _ _ c.sign_tests.ensures _ c.in_err-sign_tests.was in
    let no = left_alone a.key.now a.message.now _ says (refusal_number _) in
    search (rules, no)

pub signature-stored-requires : goal.signature-stored-requires
signature-stored-requires c =
    let a = c.args in
    let p = passed a.key.now a.message.now 0 (ok_says _ _ c.sign_tests.ensures _ c.in_ok-sign_tests.was) refl in
    (p.key_fits, omega (arith, p.long, c.message-1.given))

pub copy-requires : goal.copy-requires
copy-requires c =
    let a = c.args in
    let l = (passed a.key.now a.message.now 0 (ok_says _ _ c.sign_tests.ensures _ c.in_ok-sign_tests.was) refl).long in
    omega (arith, c.signature-stored.type_inv.1.0.1, c.message-1.given)

pub returns : goal.returns
returns c =
    let stored = c.signature-stored in
    let flagged = c.set_signed in
    let a = c.args in
    let l = (passed a.key.now a.message.now 0 (ok_says _ _ c.sign_tests.ensures _ c.in_ok-sign_tests.was) refl).long in
    signed a.key.now a.message.now 0 (ok_says _ _ c.sign_tests.ensures _ c.in_ok-sign_tests.was) _ stored.result _ refl (flagged.ensures.header l)
    stored.ensures stored.type_inv.1.0.1 c.copy.ensures
