-- Right because each line is tested in its order, and the message is only read.
-- Assumes nothing.
use mathlib.Core.Path.{refl, sym, ◌∙◌}
use borrow.Author.Tests.{not-true, not-false}
use native.Mathlib.Omega.{arith}
use borrow.Author.Rules.{rules}
use Rattle.std.proofs.lemmas.Result.{err_from_is_err_and}
use Rattle.answer.proofs.Results.{refusal_number, err_says, ok_says, applies, applies-not, test_says}
use Rattle.signing.proofs.SigningLaws.{passed, refused-first, not_signed_lem, compared}
use Rattle.signing.proofs.verify.Goals as goal

pub returns-in_err-sign_tests : goal.returns-in_err-sign_tests
returns-in_err-sign_tests c =
    let a = c.args in
    let says = err_says _ _ c.sign_tests.ensures _ c.in_err-sign_tests.was in
    let no = refused-first a.key.now a.message.now _ says (refusal_number _) in
    search (rules, no)

pub returns-in_err-refuse : goal.returns-in_err-refuse
returns-in_err-refuse c =
    let a = c.args in
    let told = applies _ _ _ c.refuse.ensures _ c.in_err-refuse.was in
    let l = (passed a.key.now a.message.now 0 (ok_says _ _ c.sign_tests.ensures _ c.in_ok-sign_tests.was) refl).long in
    let no = not_signed_lem a.key.now a.message.now 0 (ok_says _ _ c.sign_tests.ensures _ c.in_ok-sign_tests.was) refl
    (sym (c.is_signed.ensures.header l) ∙ not-true _ told.0) in
    let p = err_from_is_err_and c.from_residual-in_err-refuse.result c.from_residual-in_err-refuse.ensures.1 in
    rw (p.1, p.2, told.1) no

pub bytes_at-requires : goal.bytes_at-requires
bytes_at-requires c =
    let a = c.args in
    let l = (passed a.key.now a.message.now 0 (ok_says _ _ c.sign_tests.ensures _ c.in_ok-sign_tests.was) refl).long in
    omega arith

pub signature-requires : goal.signature-requires
signature-requires c =
    let a = c.args in
    let p = passed a.key.now a.message.now 0 (ok_says _ _ c.sign_tests.ensures _ c.in_ok-sign_tests.was) refl in
    (p.key_fits, p.long)

pub returns : goal.returns
returns c =
    let a = c.args in
    let l = (passed a.key.now a.message.now 0 (ok_says _ _ c.sign_tests.ensures _ c.in_ok-sign_tests.was) refl).long in
    let yes = not-false _ (applies-not _ _ _ c.refuse.ensures _ c.in_ok-refuse.was) in
    compared a.key.now a.message.now 0 (ok_says _ _ c.sign_tests.ensures _ c.in_ok-sign_tests.was) _ _ _ _ refl
    (sym (c.is_signed.ensures.header l) ∙ yes)
    c.bytes_at.ensures c.signature.ensures c.same_16-right.ensures (test_says _ _ _ c.refuse-2.ensures)
