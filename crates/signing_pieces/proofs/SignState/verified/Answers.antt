-- Right because each line is tested in its order on the kept bytes.
-- Assumes nothing.
use mathlib.Core.Path.{refl, sym, ◌∙◌}
use borrow.Author.Tests.{not-true, not-false}
use borrow.Author.Rules.{rules}
use lib.ListN.{length}
use Prim.Native.Nat.{◌≤◌}
use Rattle.std.proofs.lemmas.Result.{err_from_is_err_and}
use Rattle.answer.proofs.Results.{refusal_number, err_says, ok_says, applies, applies-not, test_says}
use Rattle.signing_pieces.proofs.CodeLaws.{verify_stays, verify_goes-on, flag_missing, compared_by}
use Rattle.signing_pieces.proofs.SignState.verified.Goals as goal

pub returns-in_err-joined_tests : goal.returns-in_err-joined_tests
returns-in_err-joined_tests c =
    let no = verify_stays c.args.self (err_says _ _ c.joined_tests.ensures _ c.in_err-joined_tests.was) (refusal_number _) in
    search (rules, no)

pub returns-in_err-refuse : goal.returns-in_err-refuse
returns-in_err-refuse c =
    let s = c.args.self in
    let l : 64 ≤ length s.header = search rules in
    let told = applies _ _ _ c.refuse.ensures _ c.in_err-refuse.was in
    let missing = flag_missing s (sym (c.is_signed.ensures.header l) ∙ not-true _ told.0) in
    let no = verify_goes-on s (ok_says _ _ c.joined_tests.ensures _ c.in_ok-joined_tests.was) refl missing in
    let p = err_from_is_err_and c.from_residual-in_err-refuse.result c.from_residual-in_err-refuse.ensures.1 in
    rw (p.1, p.2, told.1) no

pub returns : goal.returns
returns c =
    let s = c.args.self in
    let l : 64 ≤ length s.header = search rules in
    let yes = not-false _ (applies-not _ _ _ c.refuse.ensures _ c.in_ok-refuse.was) in
    verify_goes-on s (ok_says _ _ c.joined_tests.ensures _ c.in_ok-joined_tests.was) refl
    (compared_by s (sym (c.is_signed.ensures.header l) ∙ yes) c.bytes_at.ensures c.signature.ensures c.same_16-right.ensures (test_says _ _ _ c.refuse-2.ensures))
