-- Right because a refusal comes before a byte is written, and else the signature fills its place.
-- Assumes nothing.
use mathlib.Core.Path.{◌∙◌}
use native.Mathlib.Omega.{arith}
use Rattle.std.proofs.lemmas.Result.{err_from_is_err_and}
use Rattle.answer.proofs.Results.{refusal_number, err_says, ok_says, applies, applies-not}
use Rattle.signing_pieces.proofs.CodeLaws.{place_bad, number_is, place_stays, place_filled}
use Rattle.signing_pieces.proofs.SignState.signed.Goals as goal

pub returns-in_err-refuse : goal.returns-in_err-refuse
returns-in_err-refuse c =
    let a = c.args in
    let told = applies _ _ _ c.refuse.ensures _ c.in_err-refuse.was in
    let says = place_bad a.self a.signature.now told.0 in
    let p = err_from_is_err_and c.from_residual.result c.from_residual.ensures.1 in
    rw (p.1, p.2, told.1) (says, place_stays a.self a.signature.now says (λ z. omega arith))

pub returns-in_err-joined_tests : goal.returns-in_err-joined_tests
returns-in_err-joined_tests c =
    let a = c.args in
    let fits = applies-not _ _ _ c.refuse.ensures _ c.in_ok-refuse.was in
    let says = number_is a.self a.signature.now fits (err_says _ _ c.joined_tests.ensures _ c.in_err-joined_tests.was) in
    let p = err_from_is_err_and c.from_residual-in_err-joined_tests.result c.from_residual-in_err-joined_tests.ensures.1 in
    rw (p.1, p.2) (says, place_stays a.self a.signature.now says (refusal_number _))

pub returns : goal.returns
returns c =
    let a = c.args in
    let fits = applies-not _ _ _ c.refuse.ensures _ c.in_ok-refuse.was in
    let says = number_is a.self a.signature.now fits (ok_says _ _ c.joined_tests.ensures _ c.in_ok-joined_tests.was) in
    (says, place_filled a.self a.signature.now says (c.copy_from_slice.ensures.after ∙ c.signature.ensures))
